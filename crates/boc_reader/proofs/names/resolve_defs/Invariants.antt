use Rattle.std.proofs.Common.{◌≡◌, map, drop}
use Rattle.boc_reader.specs.Shape.{AreSmallDefs}
use Rattle.boc_reader.specs.Spells.{plain_body}
use Rattle.boc_reader.specs.Views.{def_of}
use Rattle.boc_reader.specs.Resolving.{names_of, declared_of, bodies_behind}
use Rattle.boc_reader.proofs.ResolvingLists.{with_front}
use Rattle.boc_reader.proofs.names.resolve_defs.Given as goal

abbrev pub invariant-loop-def : goal.invariant-loop-def
invariant-loop-def l = record {
  found : bodies_behind (declared_of l.fn.top) (names_of l.fn.before.items) (map def_of l.defs)
      ≡ with_front (map plain_body l.bodies.items) (bodies_behind (declared_of l.top) (names_of l.before.items) (map def_of (drop l.def-index l.defs)));
  small : AreSmallDefs (map def_of (drop l.def-index l.defs));
}
