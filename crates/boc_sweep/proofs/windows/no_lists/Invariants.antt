use Rattle.std.proofs.Common.{◌≡◌, ◌≤◌, [], replicate}
use Rattle.std.specs.Vec.{vec_len, vec_capacity}
use Rattle.boc_sweep.specs.declared.windows.TheConstants.{LENGTHS}
use Rattle.boc_sweep.specs.Tops.{lists_of}
use Rattle.boc_sweep.proofs.windows.no_lists.Given as goal

abbrev pub invariant-loop : goal.invariant-loop
invariant-loop l = record {
  room : LENGTHS ≤ vec_capacity l.lists;
  count : vec_len l.lists ≡ l.counter;
  empty : lists_of l.lists.items ≡ replicate l.counter [];
}
