use Rattle.std.proofs.Common.{ℕ}
use Rattle.boc_plans.specs.Seen.{seen}
use Rattle.boc_plans.specs.Sweeps.{IsLeastGreedyEnd}
use Rattle.boc_whatif.proofs.Ends.{none_more}
use Rattle.boc_whatif.proofs.least_ends.first_over.Goals.{in-Some, in_default}
use Rattle.boc_whatif.proofs.least_ends.first_over.Goals as goal

pub loop-row-preserved : goal.loop-row-preserved
loop-row-preserved c =
    let parts = c.args.parts.now in
    let P = λ (row : ℕ). IsLeastGreedyEnd (seen parts.sharing parts.rows.now) parts.workers row parts.end in
    elim c.match-fewer_ticks.branch [
      | in-Some w ↦ rw w.first-is tt
      | in_default w ↦ rw w.first-is
          (none_more P c.loop-row.first c.args.from c.loop-row.row c.loop-row.invariant w.in_default.ensures.none)
    ]
