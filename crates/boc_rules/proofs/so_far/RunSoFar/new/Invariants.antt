use Rattle.std.proofs.Common.{◌≡◌, None, replicate}
use Rattle.std.specs.Vec.{vec_len, vec_capacity}
use Rattle.boc_rules.proofs.so_far.RunSoFar.new.Given as goal

abbrev pub invariant-loop : goal.invariant-loop
invariant-loop l = record {
  none : l.latest.items ≡ replicate l.counter None;
  count : vec_len l.latest ≡ l.counter;
  room : vec_capacity l.latest ≡ l.cowns;
}
