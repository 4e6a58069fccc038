use Rattle.std.proofs.Common.{◌≡◌, ◌++◌, map, drop}
use Rattle.boc_reader.specs.Resolving.{global_of, names_of, cown_names}
use Rattle.boc_reader.proofs.names.declare.names_of_cowns.Given as goal

abbrev pub invariant-loop-cown : goal.invariant-loop-cown
invariant-loop-cown l =
    cown_names (map global_of l.cowns) ≡ names_of l.names.items ++ cown_names (map global_of (drop l.cown-index l.cowns))
