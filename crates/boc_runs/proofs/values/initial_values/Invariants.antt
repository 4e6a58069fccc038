use Rattle.std.proofs.Common.{◌≡◌, ◌+◌, ◌≤◌, ◌++◌, drop, length}
use Rattle.boc_program.specs.Programs.{cown_count, initial_values}
use Rattle.boc_runs.proofs.values.initial_values.Given as goal

abbrev pub invariant-loop-cown : goal.invariant-loop-cown
invariant-loop-cown l = record {
  so_far : l.values.items ++ initial_values (drop l.cown-index l.cowns) ≡ initial_values l.cowns;
  few : length l.values.items + cown_count (drop l.cown-index l.cowns) ≤ 256;
}
