use Rattle.std.proofs.Common.{◌∙◌, ap}
use Rattle.boc_runs.specs.machine.Steps.{values}
use Rattle.boc_runs.specs.machine.Turns.{Driven}
use Rattle.boc_timed.proofs.ByOne.{comes_by_one}
use Rattle.boc_timed.proofs.laws.timed_by_one.Goals as goal

pub returns-clause-events : goal.returns-clause-events
returns-clause-events c p timed is choices end turns quiet =
    is.events ∙ ap (λ (d : Driven). d.state.log) (comes_by_one p timed is choices end turns quiet)

pub returns-clause-values : goal.returns-clause-values
returns-clause-values c p timed is choices end turns quiet =
    is.values_are ∙ ap (λ (d : Driven). values p d.state) (comes_by_one p timed is choices end turns quiet)

pub returns-clause-steps : goal.returns-clause-steps
returns-clause-steps c p timed is choices end turns quiet =
    is.steps_are ∙ ap (λ (d : Driven). d.state.steps) (comes_by_one p timed is choices end turns quiet)
