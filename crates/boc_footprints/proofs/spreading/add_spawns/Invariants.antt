use Rattle.std.proofs.Common.{◌≡◌, ◌++◌}
use Rattle.boc_program.specs.memory.View.{code_of}
use Rattle.boc_footprints.specs.Spreading.{spawned_below}
use Rattle.boc_footprints.proofs.spreading.add_spawns.Given as goal

abbrev pub invariant-loop-other : goal.invariant-loop-other
invariant-loop-other l = l.all.items ≡ l.initial.all.items ++ spawned_below l.kind (code_of l.stmts) l.other
