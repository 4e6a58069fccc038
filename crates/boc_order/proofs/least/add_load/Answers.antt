use Rattle.std.proofs.Common.{◌≡◌, ℕ, ◌+◌, ◌*◌, ◌<◌, ◌≤◌, length, true≢false, sym, ◌∙◌, arith}
use Rattle.std.specs.Prelude.{slice_index}
use Rattle.boc_program.specs.declared.limits.TheConstants.{MOST_TICKS}
use Rattle.boc_runs.specs.Rows.{cowns_of, ticks_of}
use Rattle.boc_order.proofs.LeastLoads.{added_low, added_skips, added_takes, added_all}
use Rattle.boc_order.proofs.least.add_load.Goals.{then-writes, else-writes}
use Rattle.boc_order.proofs.least.add_load.Goals as goal

pub overflow_add-loads : goal.overflow_add-loads
overflow_add-loads c =
    let rows = c.args.rows.now in
    let i : ℕ = c.loop-own.own-index in
    let below : i < length (cowns_of rows c.args.row) = rw (← c.cowns-own-items.ensures) c.loop-own-test.true in
    let low : slice_index c.loop-own.loads (slice_index (cowns_of rows c.args.row) i) + ticks_of rows c.args.row ≤ (c.args.row + 1) * MOST_TICKS =
    added_low rows c.requires.shape c.args.row c.requires.there c.args.loads.now i c.loop-own.loads c.loop-own.invariant below c.requires.loads in
    rw c.cowns-own-items.ensures (omega (arith, low, c.from-ticks.ensures, c.ticks.ensures, c.requires.there, c.requires.shape.not_many))

pub loop-own-preserved : goal.loop-own-preserved
loop-own-preserved c =
    let rows = c.args.rows.now in
    let i : ℕ = c.loop-own.own-index in
    let below : i < length (cowns_of rows c.args.row) = rw (← c.cowns-own-items.ensures) c.loop-own-test.true in
    let writes = rw c.cowns-own-items.ensures at c.writes.ensures in
    elim c.if-writes.branch [
      | then-writes w ↦ rw (w.loads-is, c.cowns-own-items.ensures) (added_takes rows c.requires.shape c.args.row c.requires.there c.args.loads.now i
          c.loop-own.loads c.loop-own.invariant below (writes.0 w.if-writes.true) c.requires.loads.whole _
          (let e : slice_index c.loop-own.loads (slice_index (cowns_of rows c.args.row) i) + c.from-ticks.result
          ≡ slice_index c.loop-own.loads (slice_index (cowns_of rows c.args.row) i) + ticks_of rows c.args.row =
          omega (arith, c.from-ticks.ensures, c.ticks.ensures) in e))
      | else-writes w ↦ rw w.loads-is (added_skips rows c.requires.shape c.args.row c.requires.there c.args.loads.now i c.loop-own.loads
          c.loop-own.invariant below (λ h. true≢false (sym (writes.1 h) ∙ w.if-writes.false)))
    ]

pub returns : goal.returns
returns c =
    let rows = c.args.rows.now in
    let all : length (cowns_of rows c.args.row) ≤ c.loop-own.own-index = rw (← c.cowns-own-items.ensures) c.loop-own-test.false in
    added_all rows c.requires.shape c.args.row c.requires.there c.args.loads.now c.loop-own.own-index c.loop-own.loads all c.loop-own.invariant
    c.requires.loads
