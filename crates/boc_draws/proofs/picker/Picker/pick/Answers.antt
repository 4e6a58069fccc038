use Rattle.std.proofs.Common.{◌∙◌, ℕ, List, length, ap, sym, arith}
use Rattle.boc_draws.specs.Picks.{first_among}
use Rattle.boc_draws.proofs.Picking.{words_picked, seen_among, order_picked}
use Rattle.boc_draws.proofs.picker.Picker.pick.Goals as goal

pub returns-in-Words : goal.returns-in-Words
returns-in-Words c =
    words_picked c.args.self.now c.in-Words.generator c.args.steps c.args.movers.now c.next_word.result c.next_word.new.self c.in-Words.is c.requires
    c.next_word.ensures

pub first_of-requires : goal.first_of-requires
first_of-requires c =
    seen_among c.args.self.now c.in-Order.order c.in-Order.falls c.args.steps c.args.movers.now c.deref.result.now c.fall.new.order.items
    c.deref-in-Order-2.result.now c.in-Order.is c.deref.ensures.0 c.fall.ensures c.deref-in-Order-2.ensures.0 c.requires

pub returns-in-Order : goal.returns-in-Order
returns-in-Order c =
    order_picked c.args.self.now c.in-Order.order c.in-Order.falls c.fall.new.order c.args.steps c.args.movers.now c.deref.result.now
    c.deref-in-Order.result.now c.first_of.result c.in-Order.is c.deref.ensures.0 c.fall.ensures c.deref-in-Order.ensures.0
    (c.first_of.ensures.place ∙ ap (λ xs. first_among xs c.args.movers.now) (c.deref-in-Order-2.ensures.0 ∙ sym c.deref-in-Order.ensures.0))
    (omega (arith, c.first_of.ensures.below, ap (λ (xs : List ℕ). length xs) (c.deref-in-Order-2.ensures.0 ∙ sym c.deref-in-Order.ensures.0)))
