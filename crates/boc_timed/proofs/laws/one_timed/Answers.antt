use Rattle.std.proofs.Common.{◌∙◌, ap, sym}
use Rattle.boc_runs.specs.machine.Steps.{values}
use Rattle.boc_runs.specs.machine.Turns.{Driven}
use Rattle.boc_timed.proofs.OneTimed.{one_run, run_or_full}
use Rattle.boc_timed.proofs.OneTimetable.{one_timetable}
use Rattle.boc_timed.proofs.laws.one_timed.Goals as goal

pub returns-clause-events : goal.returns-clause-events
returns-clause-events c p workers a b x y = x.events ∙ ap (λ (d : Driven). d.state.log) (one_run p workers a b x y) ∙ sym y.events

pub returns-clause-cowns : goal.returns-clause-cowns
returns-clause-cowns c p workers a b x y = x.run.cowns ∙ sym y.run.cowns

pub returns-clause-values : goal.returns-clause-values
returns-clause-values c p workers a b x y = x.values_are ∙ ap (λ (d : Driven). values p d.state) (one_run p workers a b x y) ∙ sym y.values_are

pub returns-clause-steps : goal.returns-clause-steps
returns-clause-steps c p workers a b x y = x.steps_are ∙ ap (λ (d : Driven). d.state.steps) (one_run p workers a b x y) ∙ sym y.steps_are

pub returns-clause-starts : goal.returns-clause-starts
returns-clause-starts c p workers a b x y = (one_timetable p workers a b x y).0

pub returns-clause-workers : goal.returns-clause-workers
returns-clause-workers c p workers a b x y = (one_timetable p workers a b x y).1

pub returns-clause-either : goal.returns-clause-either
returns-clause-either c p workers a x y = run_or_full p workers a x y
