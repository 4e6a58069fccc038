use Rattle.std.proofs.Common.{◌∙◌, ◌++◌, ◌∷◌, [], List, ap, append_assoc}
use Rattle.boc_names.specs.Names.{member_places}
use Rattle.boc_names.specs.declared.held.Place.{Place}
use Rattle.boc_names.proofs.Counts.{place_more}
use Rattle.boc_names.proofs.held.put_declared_places.Goals as goal

pub loop-member-preserved : goal.loop-member-preserved
loop-member-preserved c =
    let member = c.loop-member.member in
    let declaration = c.args.declaration in
    let before = c.args.places.now.items in
    let place : Place = record { declaration = declaration; member = member } in
    c.in_ok-push.ensures.items
    ∙ ap (λ (places : List Place). places ++ place ∷ []) c.loop-member.invariant
    ∙ append_assoc before (member_places declaration 0 member) (place ∷ [])
    ∙ ap (λ (places : List Place). before ++ places) (place_more declaration member)
