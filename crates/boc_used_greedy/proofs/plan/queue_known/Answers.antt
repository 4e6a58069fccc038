use Rattle.std.proofs.Common.{ℕ, refl, arith}
use Rattle.std.specs.Prelude.{slice_index}
use Rattle.std.specs.BinaryHeap.{heap_items}
use Rattle.std.proofs.lemmas.List.Elements.{Contains-get_or}
use Rattle.boc_used_greedy.proofs.Telling.{queued_skip, queued_push, queued_all}
use Rattle.boc_used_greedy.proofs.plan.queue_known.Goals as goal
use Rattle.boc_used_greedy.proofs.plan.queue_known.Goals.{then-starts-row+in-Some+in_ok-push, then-starts-row+in_default, else-starts-row}

pub bounds-starts-row : goal.bounds-starts-row
bounds-starts-row c =
    let list = c.args.list.now in
    let n = c.loop-row.row-index in
    omega (arith, c.requires.rows (slice_index list n) (Contains-get_or list n 0 c.loop-row-test.true), c.requires.whole)

pub loop-row-preserved : goal.loop-row-preserved
loop-row-preserved c =
    let rows = c.args.rows.now in
    let holds = c.args.holds.now.all.items in
    let starts = c.args.starts.now in
    let list = c.args.list.now in
    let old = heap_items c.args.waiting.now in
    let here = heap_items c.loop-row.waiting in
    let n : ℕ = c.loop-row.row-index in
    let i = c.loop-row.invariant in
    let there = c.requires.rows (slice_index list n) (Contains-get_or list n 0 c.loop-row-test.true) in
    elim c.if-starts-row.branch [
      | then-starts-row+in-Some+in_ok-push w ↦ (
          rw w.waiting-is (queued_push rows holds starts list old n here _ w.in-Some.tick (slice_index list n) i refl (there, w.if-starts-row.true)
          w.in-Some.ensures.from w.in-Some.ensures.low (w.in_ok-push.ensures.heap_order i.heap) w.in_ok-push.ensures.permutation))
      | then-starts-row+in_default w ↦ rw w.waiting-is (queued_skip rows holds starts list old n here i (λ t low not by. w.in_default.ensures.none t low by))
      | else-starts-row w ↦ rw w.waiting-is (queued_skip rows holds starts list old n here i (λ t low not by. w.if-starts-row.false not.1))
    ]

pub returns : goal.returns
returns c = queued_all c.args.rows.now c.args.holds.now.all.items c.args.starts.now c.args.list.now (heap_items c.args.waiting.now) c.loop-row.row-index
    (heap_items c.loop-row.waiting) (omega (arith, c.loop-row-test.false)) c.loop-row.invariant
