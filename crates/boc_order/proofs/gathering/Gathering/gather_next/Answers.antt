use Rattle.std.proofs.Common.{arith, length, ap}
use Rattle.std.proofs.lemmas.List.{with_items_is}
use Rattle.boc_order.specs.declared.gathering.Use.{Use}
use Rattle.boc_order.proofs.Listing.{bounds_more}
use Rattle.boc_order.proofs.Using.{waits_more, adds_long}
use Rattle.boc_order.proofs.gathering.Gathering.gather_next.Goals as goal

pub returns : goal.returns
returns c = record {
  room = omega (arith, c.push_reserved.ensures.capacity, c.requires.gathered.room);
  len = omega (arith, c.push_reserved.ensures.len, c.requires.gathered.len);
  uses = rw (← with_items_is c.args.self.now.uses c.gather.new.uses
      (omega (
        arith,
        c.in_ok-gather.ensures.uses.whole,
        c.requires.gathered.uses.whole,
        c.deref_mut.ensures.len,
        ap (length {A = Use})
            c.deref_mut.ensures.value,
      )))
      at c.in_ok-gather.ensures.uses;
  bounds = rw (c.push_reserved.ensures.items, c.in_ok-end_of.ensures, c.deref.ensures.value)
      (bounds_more _ _ _ c.requires.gathered.bounds (adds_long _ _ _ _ c.in_ok-gather.ensures.adds));
  waits = rw (c.push_reserved.ensures.items, c.in_ok-end_of.ensures, c.deref.ensures.value)
      (waits_more _ _ _ _ _ c.requires.gathered.bounds c.in_ok-gather.ensures.adds c.requires.gathered.waits);
}
