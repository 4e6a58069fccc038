use Rattle.std.proofs.Common.{◌≡◌, map, take}
use Rattle.boc_names.specs.Names.{texts_of}
use Rattle.boc_names.proofs.held.declared_names.Given as goal

abbrev pub invariant-loop-cown : goal.invariant-loop-cown
invariant-loop-cown l = texts_of l.names.items ≡ map (λ c. c.name) (take l.cown-index l.cowns)
