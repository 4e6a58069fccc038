use Rattle.std.proofs.Common.{◌≡◌, [], map, drop}
use Rattle.boc_reader.specs.Views.{def_of}
use Rattle.boc_reader.specs.Resolving.{global_of, callee_of, defs_behind}
use Rattle.boc_reader.proofs.names.declare.declare_defs.Given as goal

abbrev pub invariant-loop-def : goal.invariant-loop-def
invariant-loop-def l =
    defs_behind (map global_of l.cowns) [] (map def_of l.defs)
    ≡ defs_behind (map global_of l.cowns) (map callee_of l.declared.items) (map def_of (drop l.def-index l.defs))
