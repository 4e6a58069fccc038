use Rattle.boc_dispatch.proofs.InPlace.{works_in_place, works_from, fits_in_place}
use Rattle.boc_dispatch.proofs.OwnTurns.{leaves_fits, stays_fits}
use Rattle.boc_dispatch.specs.declared.worker.Hand.TheVariants as hands
use Rattle.boc_dispatch.specs.declared.worker.Turn.TheVariants as turns
use Rattle.boc_dispatch.proofs.Worked.{leaves_on, leaves_last, waits_to_leave}
use Rattle.boc_dispatch.proofs.worker.leave.Goals as goal

pub returns-in-Moved-clause-works : goal.returns-in-Moved-clause-works
returns-in-Moved-clause-works g c =
    works_in_place c.args.core.now c.leave.new.self (turns.Moved c.in-Moved.step) c.args.hand.now (hands.Leaving c.args.leaving) c.requires
    (leaves_on c.args.core.now c.leave.new.self c.args.leaving c.in-Moved.step c.in-Moved.ensures)

pub returns-in-Blocked-clause-works : goal.returns-in-Blocked-clause-works
returns-in-Blocked-clause-works g c =
    works_in_place c.args.core.now c.leave.new.self turns.Blocked c.args.hand.now (hands.Leaving c.args.leaving) c.requires
    (waits_to_leave c.args.core.now c.leave.new.self c.args.leaving c.in-Blocked.ensures)

pub returns-in-Gone-clause-works : goal.returns-in-Gone-clause-works
returns-in-Gone-clause-works g c =
    works_from c.args.core.now c.leave.new.self (turns.Moved c.in-Gone.step) c.args.hand.now (hands.Leaving c.args.leaving) hands.Nothing c.requires
    (leaves_last c.args.core.now c.leave.new.self c.args.leaving c.in-Gone.step c.in-Gone.ensures)

pub returns-in-Moved-clause-fits : goal.returns-in-Moved-clause-fits
returns-in-Moved-clause-fits g c =
    fits_in_place c.args.core.now c.leave.new.self c.args.hand.now (hands.Leaving c.args.leaving) c.requires
    (λ sound fits. leaves_fits c.args.core.now c.leave.new.self c.args.leaving c.in-Moved.step c.in-Moved.ensures)

pub returns-in-Blocked-clause-fits : goal.returns-in-Blocked-clause-fits
returns-in-Blocked-clause-fits g c sound fits = stays_fits c.args.core.now c.leave.new.self c.args.hand.now c.in-Blocked.ensures.0 fits

pub returns-in-Unknown-clause-fits : goal.returns-in-Unknown-clause-fits
returns-in-Unknown-clause-fits g c sound fits = stays_fits c.args.core.now c.leave.new.self c.args.hand.now c.in-Unknown.ensures.0 fits
