use Rattle.std.proofs.Common.{◌≡◌, map, drop}
use Rattle.boc_program.specs.memory.View.{cown_ref_of}
use Rattle.boc_reader.specs.Names.{ref_names, all_names}
use Rattle.boc_reader.specs.Views.{named_cown_of}
use Rattle.boc_reader.specs.Resolving.{names_of, outside_of}
use Rattle.boc_reader.proofs.ResolvingLists.{with_front}
use Rattle.boc_reader.proofs.names.block.resolve_refs.Given as goal

abbrev pub invariant-loop-reference : goal.invariant-loop-reference
invariant-loop-reference l = all_names (ref_names (outside_of l.outside) (names_of l.scope)) (map named_cown_of l.references)
    ≡ with_front (map cown_ref_of l.all.items) (all_names (ref_names (outside_of l.outside) (names_of l.scope))
    (map named_cown_of (drop l.reference-index l.references)))
