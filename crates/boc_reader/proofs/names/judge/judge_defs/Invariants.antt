use Rattle.std.proofs.Common.{◌≡◌, map, drop}
use Rattle.boc_reader.specs.Judging.{defs_verdict}
use Rattle.boc_reader.specs.Views.{def_of}
use Rattle.boc_reader.specs.Resolving.{names_of, declared_of}
use Rattle.boc_reader.proofs.names.judge.judge_defs.Given as goal

abbrev pub invariant-loop-def : goal.invariant-loop-def
invariant-loop-def l = defs_verdict (declared_of l.fn.top) (names_of l.fn.before.items) (map def_of l.fn.defs) l.fn.count
    ≡ defs_verdict (declared_of l.top) (names_of l.before.items) (map def_of (drop l.def-index l.defs)) l.count
