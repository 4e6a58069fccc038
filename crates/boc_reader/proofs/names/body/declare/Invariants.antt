use Rattle.std.proofs.Common.{◌≡◌, map, drop}
use Rattle.boc_reader.specs.Views.{name_of}
use Rattle.boc_reader.specs.Resolving.{names_of, declared_of, scope_with}
use Rattle.boc_reader.proofs.names.body.declare.Given as goal

abbrev pub invariant-loop-param : goal.invariant-loop-param
invariant-loop-param l = scope_with (declared_of l.fn.top) (names_of l.fn.scope.items) (map name_of l.fn.params)
    ≡ scope_with (declared_of l.top) (names_of l.scope.items) (map name_of (drop l.param-index l.params))
