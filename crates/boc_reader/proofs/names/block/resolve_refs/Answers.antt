use Rattle.std.proofs.Common.{map, arith}
use Rattle.boc_program.specs.memory.View.{cown_ref_of}
use Rattle.boc_reader.specs.Names.{ref_names}
use Rattle.boc_reader.specs.Views.{named_cown_of}
use Rattle.boc_reader.specs.Resolving.{names_of, outside_of}
use Rattle.boc_reader.proofs.ResolvingFront.{names_more, names_none}
use Rattle.boc_reader.proofs.ResolvingParameters.{passed_on}
use Rattle.boc_reader.proofs.names.block.resolve_refs.Goals as goal

pub loop-reference-preserved : goal.loop-reference-preserved
loop-reference-preserved c =
    names_more (ref_names (outside_of c.args.outside.now) (names_of c.args.scope.now)) named_cown_of cown_ref_of c.args.references.now
    c.loop-reference.reference-index c.reference-item.result c.loop-reference.all.items _ c.in_ok-cown.cown _ (omega arith) c.reference-item.is
    c.in_ok-cown.ensures c.in_ok-push.ensures.items c.loop-reference.invariant

pub returns-in_err-cown : goal.returns-in_err-cown
returns-in_err-cown c =
    passed_on cown_ref_of (λ v. map cown_ref_of v.items) _ _ _ _ c.from_residual.ensures.1 c.in_err-cown.ensures
    (names_none (ref_names (outside_of c.args.outside.now) (names_of c.args.scope.now)) named_cown_of cown_ref_of c.args.references.now
    c.loop-reference.reference-index c.reference-item.result c.loop-reference.all.items _ (omega arith) c.reference-item.is c.loop-reference.invariant)
