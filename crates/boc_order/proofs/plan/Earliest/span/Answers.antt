use Rattle.boc_order.proofs.Replacing.{greatest_is_span}
use Rattle.boc_order.proofs.plan.Earliest.span.Goals as goal

pub returns : goal.returns
returns c = λ rows hr placed.
    greatest_is_span rows hr _ c.args.self.now.ends.items _ placed c.last_end.result
    (rw c.deref.ensures.value at c.last_end.ensures.none_later)
    (rw c.deref.ensures.value at c.last_end.ensures.reached).0
    (rw c.deref.ensures.value at c.last_end.ensures.reached).1
    (rw c.deref.ensures.value at c.last_end.ensures.reached).2
