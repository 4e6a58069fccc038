-- There is one way of a program, a number of workers and a depth.
use Rattle.std.proofs.Common.{◌≡◌, ℕ, refl, sym, ◌∙◌, ap, subst}
use Rattle.std.specs.Prelude.{Option, Some, None, Ok, Err}
use Rattle.boc_program.specs.declared.program.Program.{Program}
use Rattle.boc_runs.specs.machine.Turns.{Driven}
use Rattle.boc_draws.specs.declared.fault.DrawFault.TheVariants.{Behaviours}
use Rattle.boc_draws.specs.declared.way.Way.{Way}
use Rattle.boc_draws.specs.declared.way.Way.TheVariants.{Uniform, Priorities}
use Rattle.boc_draws.specs.declared.drawing.Drawn.{Drawn}
use Rattle.boc_draws.specs.Draws.{IsDraw}
use Rattle.boc_draws.specs.Ways.{AnswersWay, IsWay, MakesSteps}
use Rattle.boc_draws.proofs.OneDraw.{one_drawn, drawn_or_full}

-- two draws by one seed make as many steps
as_many_steps : (p : Program) (workers a b : ℕ) → MakesSteps p workers a → MakesSteps p workers b → a ≡ b
as_many_steps p workers a b x y =
    x.steps_are ∙ x.is_draw.steps_are ∙ ap (λ (d : Driven). d.state.steps) (one_drawn p workers Uniform 0 x.drawn y.drawn x.is_draw y.is_draw)
    ∙ sym y.is_draw.steps_are ∙ sym y.steps_are

pub one_way : (p : Program) (workers : ℕ) (depth : Option ℕ) (a b : Way) → IsWay p workers depth a → IsWay p workers depth b → a ≡ b
one_way p workers None a b x y = x ∙ sym y
one_way p workers (Some depth) a b x y = x.2 ∙ ap (Priorities depth) (as_many_steps p workers x.0 y.0 x.1 y.1) ∙ sym y.2

pub way_or_full : (p : Program) (workers : ℕ) (depth : Option ℕ) (way : Way) → IsWay p workers depth way
    → AnswersWay p workers depth (Err Behaviours) → ⊥
way_or_full p workers None way is none = none
way_or_full p workers (Some depth) way is full = drawn_or_full p workers Uniform 0 is.1.drawn is.1.is_draw full

-- the way at a depth, where the draw by the seed 0 makes so many steps
pub way_counted : (p : Program) (workers : ℕ) (asked : Option ℕ) (depth : ℕ) (drawn : Drawn) → asked ≡ Some depth → IsDraw p workers Uniform 0 (Ok drawn)
    → IsWay p workers asked (Priorities depth drawn.steps)
way_counted p workers asked depth drawn is is_draw = subst (λ (o : Option ℕ). IsWay p workers o (Priorities depth drawn.steps)) (sym is)
    (drawn.steps, record { drawn = drawn; is_draw = is_draw; steps_are = refl }, refl)
