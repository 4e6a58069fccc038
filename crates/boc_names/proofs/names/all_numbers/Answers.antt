use Rattle.std.proofs.Common.{◌∙◌, ◌++◌, ◌∷◌, [], ap}
use Rattle.boc_names.proofs.Counts.{numbers_more}
use Rattle.boc_names.proofs.names.all_numbers.Goals as goal

pub loop-number-preserved : goal.loop-number-preserved
loop-number-preserved c =
    let number = c.loop-number.number in
    c.in_ok-push.ensures.items ∙ ap (λ xs. xs ++ number ∷ []) c.loop-number.invariant ∙ numbers_more number
