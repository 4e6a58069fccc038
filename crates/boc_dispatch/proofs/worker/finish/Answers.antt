use Rattle.std.proofs.Common.{subst, sym}
use Rattle.std.specs.Prelude.{Option, Result, Ok}
use Rattle.boc_runs.specs.declared.step.Step.TheVariants as steps
use Rattle.boc_dispatch.specs.declared.calls.FinishFault.{FinishFault}
use Rattle.boc_dispatch.specs.declared.calls.Leaving.{Leaving}
use Rattle.boc_dispatch.specs.declared.worker.Hand.{Hand}
use Rattle.boc_dispatch.specs.declared.worker.Hand.TheVariants as hands
use Rattle.boc_dispatch.specs.declared.worker.Turn.TheVariants as turns
use Rattle.boc_dispatch.specs.Calls.{FinishesRow, with_outcome}
use Rattle.boc_dispatch.specs.Working.{Works}
use Rattle.boc_dispatch.proofs.InPlace.{works_from}
use Rattle.boc_dispatch.proofs.OwnTurns.{finishes_fits}
use Rattle.boc_dispatch.proofs.Worked.{finishes, is_gone}
use Rattle.boc_dispatch.proofs.worker.finish.Goals as goal

abbrev Answer : Type 0
Answer = Result (Option Leaving) FinishFault

pub returns-in-Some-clause-works : goal.returns-in-Some-clause-works
returns-in-Some-clause-works g c =
    let done = c.in-Done in
    works_from c.args.core.now c.finish_by-finished.new.self (turns.Moved steps.Finish) c.args.hand.now (hands.Done done.row done.outcome)
    (hands.Leaving c.in-Some.leaving) done.is
    (finishes c.args.core.now c.finish_by-finished.new.self done.row done.outcome c.in-Some.leaving
    (subst (λ (l : Option Leaving). FinishesRow c.args.core.now done.row done.outcome (Ok l) c.finish_by-finished.new.self) c.in-Some.is
    (subst (λ (r : Answer). FinishesRow c.args.core.now done.row done.outcome (with_outcome done.outcome r) c.finish_by-finished.new.self) c.in-Ok.is
    c.finish_by-finished.ensures)))

pub returns-in-None-clause-works : goal.returns-in-None-clause-works
returns-in-None-clause-works g c =
    let done = c.in-Done in
    subst (λ (k : Hand). Works c.args.core.now c.args.hand.now (turns.Moved steps.Finish) c.finish_by-finished.new.self k) (sym c.clear-in-None.ensures)
    (works_from c.args.core.now c.finish_by-finished.new.self (turns.Moved steps.Finish) c.args.hand.now (hands.Done done.row done.outcome) hands.Nothing
    done.is
    (is_gone c.args.core.now c.finish_by-finished.new.self done.row done.outcome
    (subst (λ (l : Option Leaving). FinishesRow c.args.core.now done.row done.outcome (Ok l) c.finish_by-finished.new.self) c.in-None.is
    (subst (λ (r : Answer). FinishesRow c.args.core.now done.row done.outcome (with_outcome done.outcome r) c.finish_by-finished.new.self) c.in-Ok.is
    c.finish_by-finished.ensures))))

pub returns-in-Some-clause-fits : goal.returns-in-Some-clause-fits
returns-in-Some-clause-fits g c sound fits =
    let done = c.in-Done in
    finishes_fits c.args.core.now c.finish_by-finished.new.self done.row done.outcome c.in-Some.leaving
    (subst (λ (l : Option Leaving). FinishesRow c.args.core.now done.row done.outcome (Ok l) c.finish_by-finished.new.self) c.in-Some.is
    (subst (λ (r : Answer). FinishesRow c.args.core.now done.row done.outcome (with_outcome done.outcome r) c.finish_by-finished.new.self) c.in-Ok.is
    c.finish_by-finished.ensures))
