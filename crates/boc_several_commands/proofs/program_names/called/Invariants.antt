use Rattle.std.proofs.Common.{◌≡◌, ◌++◌, map}
use Rattle.boc_several_commands.proofs.program_names.called.Given as goal

abbrev pub invariant-loop-def : goal.invariant-loop-def
invariant-loop-def l = l.names.items ++ map (λ d. d.name) l.def-iterator.rest.items ≡ map (λ d. d.name) l.fn.defs.items
