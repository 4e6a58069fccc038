use Rattle.std.proofs.Common.{ℕ, ◌<◌, ◌≤◌, length, true≢false, refl, sym, ◌∙◌, arith}
use Rattle.std.specs.Prelude.{slice_index}
use Rattle.boc_runs.specs.Rows.{cowns_of}
use Rattle.boc_order.proofs.FirstStarts.{firsts_more, noted_skips, noted_takes}
use Rattle.boc_order.proofs.starts.note_start.Goals.{then-writes, else-writes}
use Rattle.boc_order.proofs.starts.note_start.Goals as goal

pub loop-own-preserved : goal.loop-own-preserved
loop-own-preserved c =
    let rows = c.args.rows.now in
    let i : ℕ = c.loop-own.own-index in
    let below : i < length (cowns_of rows c.args.row) = rw (← c.cowns-own-items.ensures) c.loop-own-test.true in
    let writes = rw c.cowns-own-items.ensures at c.writes.ensures in
    elim c.if-writes.branch [
      | then-writes w ↦ rw (w.firsts-is, c.cowns-own-items.ensures) (noted_takes rows c.args.row (slice_index c.args.starts.now c.args.row)
          c.args.firsts.now i c.loop-own.firsts c.loop-own.invariant (writes.0 w.if-writes.true)
          (omega (arith, c.requires.shape.cowns_below c.args.row c.requires.there i 0 below, c.requires.firsts.whole)) _
          (rw c.cowns-own-items.ensures at w.sooner.ensures))
      | else-writes w ↦ rw w.firsts-is (noted_skips rows c.args.row (slice_index c.args.starts.now c.args.row) c.args.firsts.now i
          c.loop-own.firsts c.loop-own.invariant (λ h. true≢false (sym (writes.1 h) ∙ w.if-writes.false)))
    ]

pub returns : goal.returns
returns c =
    let rows = c.args.rows.now in
    let all : length (cowns_of rows c.args.row) ≤ c.loop-own.own-index = rw (← c.cowns-own-items.ensures) c.loop-own-test.false in
    firsts_more rows c.requires.shape c.args.starts.now c.args.row c.requires.there c.args.firsts.now c.loop-own.firsts
    (slice_index c.args.starts.now c.args.row) c.loop-own.own-index refl all c.loop-own.invariant c.requires.firsts
