use Rattle.std.proofs.Common.{ℕ, List, subst}
use Rattle.boc_run_commands.proofs.Asked.{answers_text, stopped}
use Rattle.boc_all_ends_commands.specs.AllEndsAnswers.{IsAllEndsAnswer, IsOfSearch}
use Rattle.boc_all_ends_commands.proofs.Searched.{refused_search}
use Rattle.boc_all_ends_commands.proofs.all_ends.all_ends_cmd.Goals as goal

pub returns-in_err-answer-clause-refused : goal.returns-in_err-answer-clause-refused
returns-in_err-answer-clause-refused g c =
    refused_search _ _ c.in_ok-text.text.items _ _ c.from_residual-in_err-answer.ensures.1 c.in_ok-text.ensures.text
    (subst (λ (t : List ℕ). IsOfSearch t c.in_err-answer.field-0.0) c.deref.ensures.value c.in_err-answer.ensures)

pub returns-clause-written : goal.returns-clause-written
returns-clause-written g c = (
  c.deref-2.result.now,
  answers_text (IsAllEndsAnswer c.args.most) _ _ c.in_ok-text.text.items c.deref.result.now c.in_ok-answer.answer.items c.deref-2.result.now
      c.in_ok-text.ensures.text c.deref.ensures.value c.deref-2.ensures.value c.in_ok-answer.ensures.0 c.in_ok-answer.ensures.1,
  c.in_ok-put_out.ensures.ok,
)

pub returns-in_err-put_out-clause-written : goal.returns-in_err-put_out-clause-written
returns-in_err-put_out-clause-written g c =
    stopped _ _ _ c.deref-2.result.now _ _ c.from_residual-in_err-put_out.ensures.1
    (answers_text (IsAllEndsAnswer c.args.most) _ _ c.in_ok-text.text.items c.deref.result.now c.in_ok-answer.answer.items c.deref-2.result.now
    c.in_ok-text.ensures.text c.deref.ensures.value c.deref-2.ensures.value c.in_ok-answer.ensures.0 c.in_ok-answer.ensures.1)
    c.in_err-put_out.ensures.stopped
