use Rattle.std.proofs.Common.{◌≡◌, ◌+◌, ◌≤◌, length}
use Rattle.std.specs.Prelude.{vec_len, vec_capacity}
use Rattle.boc_order.specs.CownLinks.{IsAt}
use Rattle.boc_order.proofs.LeftOut.{AreFirstFollowers}
use Rattle.boc_order.proofs.cown_links.followers_without.Given as goal

-- the rows so far have those that wait for them
abbrev pub invariant-loop-row : goal.invariant-loop-row
invariant-loop-row l = record {
  room : length l.rows + 1 ≤ vec_capacity l.first;
  len : vec_len l.first ≡ l.row + 1;
  at : IsAt l.links.list.items l.row l.place;
  follow : AreFirstFollowers l.cown l.rows l.row l.first.items l.list.items;
}
