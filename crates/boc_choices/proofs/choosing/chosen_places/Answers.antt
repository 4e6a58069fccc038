use Rattle.std.proofs.Common.{◌∙◌, sym, arith}
use Rattle.std.proofs.Common.{vec_len}
use Rattle.boc_choices.proofs.Closed.{passes, some_chosen, some_if}
use Rattle.boc_choices.proofs.choosing.chosen_places.Goals as goal

pub returns-then-all_may_stand : goal.returns-then-all_may_stand
returns-then-all_may_stand c =
    some_chosen c.args.table.now c.args.lists.now c.args.front.now c.deref-2.result.now c.deref-3.result.now c.in_ok-places.places.items c.requires.low
    c.in_ok-places.ensures c.deref-3.ensures.value
    (omega (arith, some_if (vec_len c.in_ok-places.places) c.is_empty.result c.is_empty.ensures c.if-not-is_empty.true, c.in_ok-places.places.ok.0))
    (passes c.args.table.now c.args.lists.now c.deref-2.result.now c.deref-then-not-is_empty-2.result.now c.args.front.now.live.items
    c.deref-then-not-is_empty.result.now c.all_may_stand.result c.all_may_stand.ensures c.if-all_may_stand.true
    (c.deref-then-not-is_empty-2.ensures.value ∙ sym c.deref-2.ensures.value) c.deref-then-not-is_empty.ensures.value)
