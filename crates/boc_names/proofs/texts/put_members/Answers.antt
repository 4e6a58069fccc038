use Rattle.std.proofs.Common.{◌∙◌, ◌++◌, ◌∷◌, [], ap, append_assoc}
use Rattle.std.proofs.lemmas.List.{map-append}
use Rattle.boc_names.proofs.Counts.{member_more}
use Rattle.boc_names.specs.Names.{texts_of, member_name, member_names}
use Rattle.boc_names.proofs.texts.put_members.Goals as goal

pub loop-member-preserved : goal.loop-member-preserved
loop-member-preserved c =
    let member = c.loop-member.member in
    let name = c.args.name.now in
    let before = texts_of c.args.names.now.items in
    ap texts_of c.in_ok-push.ensures.items
    ∙ map-append (λ text. text.items) c.loop-member.names.items (c.in_ok-member_name.field-0 ∷ [])
    ∙ ap (λ x. texts_of c.loop-member.names.items ++ x ∷ []) (c.in_ok-member_name.ensures ∙ ap (member_name name) c.from.ensures)
    ∙ ap (λ xs. xs ++ member_name name member ∷ []) c.loop-member.invariant
    ∙ append_assoc before (member_names name 0 member) (member_name name member ∷ [])
    ∙ ap (λ xs. before ++ xs) (member_more name member)
