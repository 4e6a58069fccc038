use Rattle.std.proofs.Common.{List, ℕ, subst}
use Rattle.std.proofs.lemmas.Result.{IfOk-weaker}
use Rattle.boc_why.specs.LinkCodes.{AreFirstPlaces}
use Rattle.boc_why.proofs.LinkCoding.{firsts_from_places}
use Rattle.boc_why.proofs.links.firsts.Goals as goal

pub returns : goal.returns
returns c = IfOk-weaker c.first_places.result _ _ (λ firsts h. firsts_from_places c.args.links.now c.in_ok-codes_of.field-0.items c.in_ok-codes_of.ensures
    firsts.items (subst (λ (codes : List ℕ). AreFirstPlaces codes firsts.items) c.as_slice.ensures.value h)) c.first_places.ensures
