use Rattle.std.proofs.Common.{◌∙◌, ap, sym}
use Rattle.boc_runs.specs.machine.Steps.{values}
use Rattle.boc_runs.specs.machine.Turns.{Driven}
use Rattle.boc_draws.proofs.OneDraw.{one_drawn, drawn_or_full}
use Rattle.boc_draws.proofs.laws.one_draw.Goals as goal

pub returns-clause-events : goal.returns-clause-events
returns-clause-events c p workers seed way a b x y =
    x.events ∙ ap (λ (d : Driven). d.state.log) (one_drawn p workers way seed a b x y) ∙ sym y.events

pub returns-clause-cowns : goal.returns-clause-cowns
returns-clause-cowns c p workers seed way a b x y = x.run.cowns ∙ sym y.run.cowns

pub returns-clause-values : goal.returns-clause-values
returns-clause-values c p workers seed way a b x y =
    x.values_are ∙ ap (λ (d : Driven). values p d.state) (one_drawn p workers way seed a b x y) ∙ sym y.values_are

pub returns-clause-steps : goal.returns-clause-steps
returns-clause-steps c p workers seed way a b x y =
    x.steps_are ∙ ap (λ (d : Driven). d.state.steps) (one_drawn p workers way seed a b x y) ∙ sym y.steps_are

pub returns-clause-either : goal.returns-clause-either
returns-clause-either c p workers seed way a x y = drawn_or_full p workers way seed a x y
