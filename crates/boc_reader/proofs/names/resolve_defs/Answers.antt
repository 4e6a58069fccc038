use Rattle.std.proofs.Common.{ap, ◌∙◌, map, subst, arith, rules}
use Rattle.std.proofs.lemmas.List.{map_push}
use Rattle.boc_reader.specs.Shape.{AreSmallDefs}
use Rattle.boc_reader.specs.Spells.{plain_body}
use Rattle.boc_reader.specs.Views.{def_of}
use Rattle.boc_reader.specs.Resolving.{names_of, declared_of}
use Rattle.boc_reader.proofs.ResolvingFront.{next_at, bodies_more, bodies_none}
use Rattle.boc_reader.proofs.ResolvingParameters.{passed_on}
use Rattle.boc_reader.proofs.names.resolve_defs.Goals as goal

pub loop-def-preserved : goal.loop-def-preserved
loop-def-preserved c = record {
  found = bodies_more plain_body (declared_of c.args.top.now) (names_of c.loop-def.before.items) _ c.args.defs.now c.loop-def.def-index c.def-item.result
      c.loop-def.bodies.items _ c.in_ok-body.body _ (omega arith) c.def-item.is (search rules) (search rules)
      (ap names_of c.in_ok-push-2.ensures.items ∙ map_push _ _ _) c.in_ok-push.ensures.items c.loop-def.invariant.found;
  small = (subst (λ ds. AreSmallDefs (map def_of ds)) (next_at c.args.defs.now c.loop-def.def-index c.def-item.result (omega arith) c.def-item.is)
      c.loop-def.invariant.small).1;
}

pub returns-in_err-body : goal.returns-in_err-body
returns-in_err-body c =
    passed_on plain_body (λ v. map plain_body v.items) _ _ _ _ c.from_residual.ensures.1 c.in_err-body.ensures
    (λ none. bodies_none plain_body (declared_of c.args.top.now) (names_of c.loop-def.before.items) c.args.defs.now c.loop-def.def-index c.def-item.result
    c.loop-def.bodies.items _ (omega arith) c.def-item.is (search rules) c.loop-def.invariant.found (search rules))
