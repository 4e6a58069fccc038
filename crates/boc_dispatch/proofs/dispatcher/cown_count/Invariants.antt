use Rattle.std.proofs.Common.{◌≡◌, ◌+◌, ◌≤◌, drop}
use Rattle.boc_program.specs.Programs.{cown_count}
use Rattle.boc_dispatch.proofs.dispatcher.cown_count.Given as goal

abbrev pub invariant-loop-cown : goal.invariant-loop-cown
invariant-loop-cown l = record {
  so_far : l.count + cown_count (drop l.cown-index l.cowns) ≡ cown_count l.cowns;
  few : l.count + cown_count (drop l.cown-index l.cowns) ≤ 256;
}
