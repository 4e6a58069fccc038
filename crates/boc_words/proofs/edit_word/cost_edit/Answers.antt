use Rattle.std.proofs.Common.{◌∙◌, sym, true≢false}
use Rattle.boc_words.proofs.EditWord.{no_cost, no_named_cost}
use Rattle.boc_words.proofs.edit_word.cost_edit.Goals as goal

pub returns-in_default-clause-none : goal.returns-in_default-clause-none
returns-in_default-clause-none c = no_cost c.args.word.now c.in_default.ensures

pub returns-then-not-is_name-clause-none : goal.returns-then-not-is_name-clause-none
returns-then-not-is_name-clause-none c =
    no_named_cost c.args.word.now c.in-Some.subject.now c.in-Some.part c.in-Some.ensures.0 c.in-Some.ensures.1
    (λ n few is. c.in_default-read_number.ensures n few (c.as_bytes.ensures.value ∙ is))
    (λ other. true≢false (sym (c.is_name.ensures.1 other) ∙ c.if-not-is_name.true))
