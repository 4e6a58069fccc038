use Rattle.std.proofs.Common.{◌≡◌, ◌+◌, ◌++◌, None, map, take, get_or}
use Rattle.std.specs.Vec.{vec_len, vec_capacity}
use Rattle.boc_rules.proofs.before.find.Given as goal

abbrev pub invariant-loop-cown : goal.invariant-loop-cown
invariant-loop-cown l = record {
  items : l.found.items ≡ l.initial.found.items ++ map (λ c. get_or l.latest c None) (take l.cown-index l.cowns);
  count : vec_len l.found ≡ vec_len l.initial.found + l.cown-index;
  room : vec_capacity l.found ≡ vec_capacity l.initial.found;
}
