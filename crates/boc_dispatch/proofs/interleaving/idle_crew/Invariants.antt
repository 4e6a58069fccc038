use Rattle.std.proofs.Common.{◌≡◌, ◌≤◌, map, replicate, vec_len}
use Rattle.std.specs.Prelude.{vec_capacity}
use Rattle.boc_dispatch.specs.declared.worker.Hand.TheVariants as hands
use Rattle.boc_dispatch.proofs.interleaving.idle_crew.Given as goal

abbrev pub invariant-loop-number : goal.invariant-loop-number
invariant-loop-number l = record {
  idle : map (λ worker. worker.hand) l.crew.items ≡ replicate l.number hands.Nothing;
  count : vec_len l.crew ≡ l.number;
  room : l.workers ≤ vec_capacity l.crew;
}
