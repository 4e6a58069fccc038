use Rattle.boc_runs.specs.declared.step.Step.TheVariants as steps
use Rattle.boc_dispatch.specs.declared.worker.Hand.TheVariants as hands
use Rattle.boc_dispatch.specs.declared.worker.Turn.TheVariants as turns
use Rattle.boc_dispatch.proofs.InPlace.{works_in_place, works_from, fits_from}
use Rattle.boc_dispatch.proofs.OwnTurns.{begins_fits}
use Rattle.boc_dispatch.proofs.Worked.{begins, is_quiet}
use Rattle.boc_dispatch.proofs.worker.begin_first.Goals as goal

pub returns-in-Job-clause-works : goal.returns-in-Job-clause-works
returns-in-Job-clause-works g c =
    works_from c.args.core.now c.start.new.self (turns.Moved steps.Start) c.args.hand.now hands.Nothing (hands.Started c.in-Job.job) c.requires
    (begins c.args.core.now c.start.new.self c.in-Job.job c.in-Job.ensures.begins)

pub returns-in-Quiet-clause-works : goal.returns-in-Quiet-clause-works
returns-in-Quiet-clause-works g c =
    works_in_place c.args.core.now c.start.new.self turns.Quiet c.args.hand.now hands.Nothing c.requires
    (is_quiet c.args.core.now c.start.new.self c.in-Quiet.ensures.begins c.in-Quiet.ensures.sound)

pub returns-in-Job-clause-fits : goal.returns-in-Job-clause-fits
returns-in-Job-clause-fits g c =
    fits_from c.args.core.now c.start.new.self c.args.hand.now hands.Nothing (hands.Started c.in-Job.job) c.requires
    (λ sound fits. begins_fits c.args.core.now c.start.new.self c.in-Job.job sound c.in-Job.ensures.begins)
