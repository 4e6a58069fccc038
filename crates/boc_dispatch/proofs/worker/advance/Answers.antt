use Rattle.boc_dispatch.proofs.InPlace.{works_in_place, works_from, fits_in_place, fits_from}
use Rattle.boc_dispatch.proofs.OwnTurns.{advances_fits, owns_fits, stays_fits}
use Rattle.std.proofs.Common.{subst, sym}
use Rattle.boc_runs.specs.declared.step.Step.TheVariants.{Own}
use Rattle.boc_dispatch.specs.declared.worker.Hand.{Hand}
use Rattle.boc_dispatch.specs.declared.worker.Due.TheVariants as dues
use Rattle.boc_dispatch.specs.declared.worker.Hand.TheVariants as hands
use Rattle.boc_dispatch.specs.Driving.{KeepsFitting}
use Rattle.boc_dispatch.specs.Working.{Works}
use Rattle.boc_dispatch.specs.declared.worker.Turn.TheVariants as turns
use Rattle.boc_dispatch.proofs.Worked.{advances, waits_to_settle, owns}
use Rattle.boc_dispatch.proofs.worker.advance.Goals as goal

pub returns-in-Moved-clause-works : goal.returns-in-Moved-clause-works
returns-in-Moved-clause-works g c =
    let row = c.requires.0 in
    let f = c.requires.1 in
    works_in_place c.args.core.now c.advance.new.self (turns.Moved c.in-Moved.step) c.args.hand.now (hands.Framed row f (dues.Enqueuing c.args.child))
    c.requires.2
    (advances c.args.core.now c.advance.new.self row f c.args.child c.in-Moved.step c.in-Moved.ensures)

pub returns-in-Blocked-clause-works : goal.returns-in-Blocked-clause-works
returns-in-Blocked-clause-works g c =
    let row = c.requires.0 in
    let f = c.requires.1 in
    works_in_place c.args.core.now c.advance.new.self turns.Blocked c.args.hand.now (hands.Framed row f (dues.Enqueuing c.args.child)) c.requires.2
    (waits_to_settle c.args.core.now c.advance.new.self row f c.args.child c.in-Blocked.ensures)

pub returns-in-Enqueued-clause-works : goal.returns-in-Enqueued-clause-works
returns-in-Enqueued-clause-works g c =
    let row = c.requires.0 in
    let f = c.requires.1 in
    let goes = c.resume.ensures row f c.requires.2 in
    subst (λ (k : Hand). Works c.args.core.now c.args.hand.now (turns.Moved Own) c.advance.new.self k) (sym goes)
    (works_from c.args.core.now c.advance.new.self (turns.Moved Own) c.args.hand.now (hands.Framed row f (dues.Enqueuing c.args.child))
    (hands.Framed c.args.child.row f dues.Going) c.requires.2
    (owns c.args.core.now c.advance.new.self row f c.args.child c.in-Enqueued.ensures))

pub returns-in-Moved-clause-fits : goal.returns-in-Moved-clause-fits
returns-in-Moved-clause-fits g c =
    let row = c.requires.0 in
    let f = c.requires.1 in
    fits_in_place c.args.core.now c.advance.new.self c.args.hand.now (hands.Framed row f (dues.Enqueuing c.args.child)) c.requires.2
    (λ sound fits. advances_fits c.args.core.now c.advance.new.self row f c.args.child c.in-Moved.step sound fits c.in-Moved.ensures)

pub returns-in-Blocked-clause-fits : goal.returns-in-Blocked-clause-fits
returns-in-Blocked-clause-fits g c sound fits = stays_fits c.args.core.now c.advance.new.self c.args.hand.now c.in-Blocked.ensures.0 fits

pub returns-in-Unknown-clause-fits : goal.returns-in-Unknown-clause-fits
returns-in-Unknown-clause-fits g c sound fits = stays_fits c.args.core.now c.advance.new.self c.args.hand.now c.in-Unknown.ensures.0 fits

pub returns-in-Enqueued-clause-fits : goal.returns-in-Enqueued-clause-fits
returns-in-Enqueued-clause-fits g c =
    let row = c.requires.0 in
    let f = c.requires.1 in
    let goes = c.resume.ensures row f c.requires.2 in
    subst (λ (k : Hand). KeepsFitting c.args.core.now c.args.hand.now c.advance.new.self k) (sym goes)
    (fits_from c.args.core.now c.advance.new.self c.args.hand.now (hands.Framed row f (dues.Enqueuing c.args.child))
    (hands.Framed c.args.child.row f dues.Going) c.requires.2
    (λ sound fits. owns_fits c.args.core.now c.advance.new.self row f c.args.child sound fits c.in-Enqueued.ensures))
