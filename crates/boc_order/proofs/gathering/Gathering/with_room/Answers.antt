use Rattle.std.proofs.Common.{refl, arith}
use Rattle.boc_order.proofs.gathering.Gathering.with_room.Goals as goal

pub returns : goal.returns
returns c = λ rows e. record {
  room = omega (arith, e, c.push_reserved.ensures.capacity, c.in_ok-first.ensures.capacity);
  len = omega (arith, c.push_reserved.ensures.len, c.in_ok-first.ensures.len);
  uses = c.in_ok-unused.ensures rows;
  bounds = rw (c.push_reserved.ensures.items, c.in_ok-first.ensures.items, c.in_ok-with_capacity.ensures.items) refl;
  waits = rw (c.push_reserved.ensures.items, c.in_ok-first.ensures.items) (record { whole = refl; at = λ b h. absurd (omega (arith, h)) });
}
