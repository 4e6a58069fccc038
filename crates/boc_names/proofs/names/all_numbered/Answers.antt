use Rattle.std.proofs.Common.{◌∙◌, ◌++◌, ◌∷◌, [], ap}
use Rattle.std.proofs.lemmas.List.{map-append}
use Rattle.boc_names.proofs.Counts.{numbered_more}
use Rattle.boc_names.specs.Names.{texts_of, numbered}
use Rattle.boc_names.proofs.names.all_numbered.Goals as goal

pub loop-number-preserved : goal.loop-number-preserved
loop-number-preserved c =
    let number = c.loop-number.number in
    let word = c.args.word.now in
    ap texts_of c.in_ok-push.ensures.items
    ∙ map-append (λ text. text.items) c.loop-number.names.items (c.in_ok-numbered.field-0 ∷ [])
    ∙ ap (λ x. texts_of c.loop-number.names.items ++ x ∷ []) (c.in_ok-numbered.ensures ∙ ap (numbered word) c.from.ensures)
    ∙ ap (λ xs. xs ++ numbered word number ∷ []) c.loop-number.invariant ∙ numbered_more word number
