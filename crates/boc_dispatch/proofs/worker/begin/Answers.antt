use Rattle.std.proofs.Common.{ap, subst, ◌∙◌}
use Rattle.boc_runs.specs.declared.step.Step.TheVariants as steps
use Rattle.boc_dispatch.specs.declared.worker.Due.TheVariants as dues
use Rattle.boc_dispatch.specs.declared.worker.Hand.TheVariants as hands
use Rattle.boc_dispatch.specs.declared.worker.Turn.TheVariants as turns
use Rattle.boc_dispatch.specs.Underway.{Underway}
use Rattle.boc_dispatch.specs.Working.{Works}
use Rattle.boc_dispatch.proofs.InPlace.{works_from, works_in_place, fits_from}
use Rattle.boc_dispatch.proofs.OwnTurns.{begins_frame_fits}
use Rattle.boc_dispatch.proofs.Worked.{begins_frame}
use Rattle.boc_dispatch.proofs.worker.begin.Goals as goal

pub returns-in-Some-clause-works : goal.returns-in-Some-clause-works
returns-in-Some-clause-works g c =
    works_from c.args.core.now c.start_on.new.self (turns.Moved steps.Start) c.args.hand.now hands.Nothing
    (hands.Framed c.in-Some.row c.in-Some.frame dues.Going) c.requires
    (begins_frame c.args.core.now c.start_on.new.self c.in-Some.row c.in-Some.frame c.in-Some.ensures.begins)

pub returns-in-Some-clause-fits : goal.returns-in-Some-clause-fits
returns-in-Some-clause-fits g c =
    fits_from c.args.core.now c.start_on.new.self c.args.hand.now hands.Nothing (hands.Framed c.in-Some.row c.in-Some.frame dues.Going) c.requires
    (λ sound fits. begins_frame_fits c.args.core.now c.start_on.new.self c.in-Some.row c.in-Some.frame sound c.in-Some.ensures.begins)

pub idle_turn-requires : goal.idle_turn-requires
idle_turn-requires g c =
    let none = c.in-None.ensures.begins in ap (λ (u : Underway). u.state.ready) none.0 ∙ none.1

pub returns-in-None-clause-works : goal.returns-in-None-clause-works
returns-in-None-clause-works g c =
    let none = c.in-None.ensures.begins in
    let v = c.start_on.new.self in
    works_in_place c.args.core.now v c.idle_turn.result c.args.hand.now hands.Nothing c.requires
    (subst (λ (u : Underway). Works u hands.Nothing c.idle_turn.result v hands.Nothing) none.0 c.idle_turn.ensures)
