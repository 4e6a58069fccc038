use Rattle.std.proofs.Common.{◌≡◌, map, drop}
use Rattle.boc_reader.specs.Judging.{refs_verdict}
use Rattle.boc_reader.specs.Views.{named_cown_of}
use Rattle.boc_reader.specs.Resolving.{names_of, outside_of}
use Rattle.boc_reader.proofs.names.judge.block.judge_refs.Given as goal

abbrev pub invariant-loop-reference : goal.invariant-loop-reference
invariant-loop-reference l = refs_verdict (outside_of l.outside) (names_of l.scope) (map named_cown_of l.references) l.fn.count
    ≡ refs_verdict (outside_of l.outside) (names_of l.scope) (map named_cown_of (drop l.reference-index l.references)) l.count
