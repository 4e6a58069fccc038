use Rattle.std.proofs.Common.{ℕ, Ok, Err, subst}
use Rattle.boc_program.specs.declared.program.Program.{Program}
use Rattle.boc_draws.specs.declared.way.Way.{Way}
use Rattle.boc_draws.specs.Ways.{AnswersWay}
use Rattle.boc_outcomes.specs.Tallies.{AnswersAsked}
use Rattle.boc_outcomes.specs.declared.asked.Asked.{Asked}
use Rattle.boc_run_commands.specs.OutcomesAnswers.{IsOfDraws}
use Rattle.boc_run_commands.proofs.Drawing.{all_values, refused_ends, refused_way, told_ends}
use Rattle.boc_run_commands.proofs.Passed.{passed_on}
use Rattle.boc_run_commands.proofs.outcomes.outcomes_told.Goals as goal

-- what is drawn: so many runs, from this seed on, for so many workers, in this way
abbrev asked_of : ℕ → ℕ → ℕ → Way → Asked
asked_of runs seed workers way = record { runs = runs; seed = seed; workers = workers; way = way }

pub returns-in_err-way : goal.returns-in_err-way
returns-in_err-way g c =
    passed_on _ (IsOfDraws c.args.draws c.args.text.now) _ _ c.from_residual-in_err-way.ensures.1
    (refused_way c.args.draws c.args.text.now c.in_ok-program.program c.number-workers.result c.in_err-way.field-0.0 c.in_ok-program.ensures.0
    c.number-workers.ensures.value (subst
    (λ (p : Program). AnswersWay p c.number-workers.result c.args.draws.depth (Err c.in_err-way.field-0.0)) c.in_ok-compiled.ensures c.in_err-way.ensures))

pub returns-in_err-outcomes : goal.returns-in_err-outcomes
returns-in_err-outcomes g c =
    passed_on _ (IsOfDraws c.args.draws c.args.text.now) _ _ c.from_residual-in_err-outcomes.ensures.1
    (refused_ends c.args.draws c.args.text.now c.in_ok-program.program c.in_ok-way.way c.number.result c.number-workers.result c.in_err-outcomes.field-0.0
    c.in_ok-program.ensures.0 c.number.ensures.value c.number-workers.ensures.value
    (subst (λ (p : Program). AnswersWay p c.number-workers.result c.args.draws.depth (Ok c.in_ok-way.way)) c.in_ok-compiled.ensures c.in_ok-way.ensures)
    (subst (λ (p : Program). AnswersAsked p (asked_of c.number.result c.args.draws.seed c.number-workers.result c.in_ok-way.way)
    (Err c.in_err-outcomes.field-0.0)) c.in_ok-compiled.ensures c.in_err-outcomes.ensures))

pub outcomes_text-requires : goal.outcomes_text-requires
outcomes_text-requires g c =
    let asked : Asked = record { runs = c.number.result; seed = c.args.draws.seed; workers = c.number-workers.result; way = c.in_ok-way.way } in
    all_values c.in_ok-program.program c.as_slice.result.now asked c.in_ok-outcomes.outcomes c.as_slice.ensures
    (subst (λ (p : Program). AnswersAsked p (asked_of c.number.result c.args.draws.seed c.number-workers.result c.in_ok-way.way)
    (Ok c.in_ok-outcomes.outcomes)) c.in_ok-compiled.ensures c.in_ok-outcomes.ensures)

pub returns : goal.returns
returns g c =
    let spelled = c.in_ok-program.ensures.0 in (
      told_ends c.args.draws c.args.text.now c.in_ok-program.program c.as_slice.result.now c.in_ok-way.way c.number.result c.number-workers.result
          c.in_ok-outcomes.outcomes c.in_ok-answer.answer.items spelled c.number.ensures.value c.number-workers.ensures.value c.as_slice.ensures
          (subst (λ (p : Program). AnswersWay p c.number-workers.result c.args.draws.depth (Ok c.in_ok-way.way)) c.in_ok-compiled.ensures c.in_ok-way.ensures)
          (subst (λ (p : Program). AnswersAsked p (asked_of c.number.result c.args.draws.seed c.number-workers.result c.in_ok-way.way)
          (Ok c.in_ok-outcomes.outcomes)) c.in_ok-compiled.ensures c.in_ok-outcomes.ensures) c.in_ok-answer.ensures,
      spelled.short,
    )
