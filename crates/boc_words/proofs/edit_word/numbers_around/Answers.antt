use Rattle.std.proofs.Common.{◌∙◌, decimal}
use Rattle.boc_words.proofs.EditWord.{sides, without_sign}
use Rattle.boc_words.proofs.edit_word.numbers_around.Goals as goal

pub returns-in_err-first : goal.returns-in_err-first
returns-in_err-first c =
    rw c.from_residual.ensures
    (λ first second few _ e. without_sign c.args.sign c.requires.ascii c.requires.no_digit c.args.word.now c.in_err-first.ensures.cases first
    (decimal second) few e)

pub returns-in_err-first-2 : goal.returns-in_err-first-2
returns-in_err-first-2 c =
    rw c.from_residual-in_err-first-2.ensures
    (λ first second few _ e. c.in_err-first-2.ensures first few (c.as_bytes.ensures.value
    ∙ (sides c.args.sign c.requires.ascii c.requires.no_digit c.args.word.now (c.in_ok-first.first, c.in_ok-first.second)
    c.in_ok-first.ensures.cases first (decimal second) few e).0))

pub returns-in_err-second : goal.returns-in_err-second
returns-in_err-second c =
    rw c.from_residual-in_err-second.ensures
    (λ first second few small e. c.in_err-second.ensures second small (c.as_bytes-2.ensures.value
    ∙ (sides c.args.sign c.requires.ascii c.requires.no_digit c.args.word.now (c.in_ok-first.first, c.in_ok-first.second)
    c.in_ok-first.ensures.cases first (decimal second) few e).1))
