use denote.Enum.Bare.{same_true, sameb}
use Rattle.std.proofs.Common.{rules, ◌≡◌, ◌<◌, Some, true, false, length, get_or, refl, sym, ap, ◌∙◌, arith}
use Rattle.std.specs.BinaryHeap.{heap_items}
use Rattle.std.proofs.lemmas.List.{get_or-map, get_or_default}
use Rattle.std.proofs.lemmas.Option.{slice_get_read, get_or_from_slice_get}
use Rattle.boc_greedy.specs.contracts.frontier.RowState.{the_type}
use Rattle.boc_greedy.specs.declared.children.Change.{Change}
use Rattle.boc_greedy.specs.declared.frontier.RowState.{RowState}
use Rattle.boc_greedy.specs.declared.frontier.RowState.TheVariants.{Unspawned, UnderWay}
use Rattle.boc_greedy.specs.Families.{times_of}
use Rattle.boc_greedy.specs.RowStates.{IsAt}
use Rattle.boc_greedy.proofs.Copying.{holds_same, holds_more}
use Rattle.boc_greedy.proofs.course.queue_of.Goals as goal
use Rattle.boc_greedy.proofs.course.queue_of.Goals.{Joined-eq, then-eq+in_ok-push, else-eq}

-- the state that was read
read : (c : Joined-eq) → IsAt c.args.states.now c.loop-row.row (get_or c.args.states.now c.loop-row.row Unspawned)
read c = slice_get_read c.args.states.now _ c.loop-row.row (get_or c.args.states.now c.loop-row.row Unspawned) refl c.loop-row-test.true
    (get_or_default c.args.states.now c.loop-row.row _ _ c.loop-row-test.true)

pub loop-row-preserved : goal.loop-row-preserved
loop-row-preserved c = elim c.if-eq.branch [
  | then-eq+in_ok-push w ↦ (
      let on : IsAt c.args.states.now c.loop-row.row UnderWay = read c ∙ ap Some (same_true the_type (search rules) _ _ (sym c.eq.ensures ∙ w.if-eq.true)) in
      let h : c.loop-row.row < length c.args.first.now = omega (arith, c.requires.first, c.loop-row-test.true) in
      let unread : Change = record { child = 0; after = 0 } in
      let time = get_or-map (λ (x : Change). x.after) c.args.first.now c.loop-row.row unread 0 h in
      rw w.queue-is (holds_more c.loop-row.row c.args.states.now c.args.starts.now (times_of c.args.first.now) (heap_items c.loop-row.queue)
      c.loop-row.invariant (heap_items w.push.new.self) _ on (omega (arith, w.from.ensures, time))
      (w.in_ok-push.ensures.heap_order c.loop-row.invariant.is_queue.ordered) w.in_ok-push.ensures.permutation))
  | else-eq w ↦ rw w.queue-is (holds_same c.loop-row.row c.args.states.now c.args.starts.now (times_of c.args.first.now) (heap_items c.loop-row.queue)
      c.loop-row.invariant
      (λ on. (
      let e : get_or c.args.states.now c.loop-row.row Unspawned ≡ UnderWay = get_or_from_slice_get c.args.states.now c.loop-row.row _ _ on in
      let t : false ≡ true = sym w.if-eq.false ∙ c.eq.ensures ∙ ap (λ (s : RowState). sameb the_type s UnderWay) e in
      cc)))
]
