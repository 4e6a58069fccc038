-- The way in which the workers of a program's draws are picked.
use Rattle.std.specs.Prelude.{◌≡◌, ℕ, Option, Some, None, Result, Ok, Err}
use Rattle.boc_program.specs.declared.program.Program.{Program}
use Rattle.boc_draws.specs.declared.drawing.Drawn.{Drawn}
use Rattle.boc_draws.specs.declared.fault.DrawFault.{DrawFault}
use Rattle.boc_draws.specs.declared.way.Way.{Way}
use Rattle.boc_draws.specs.declared.way.Way.TheVariants.{Uniform, Priorities}
use Rattle.boc_draws.specs.Draws.{IsDraw}

-- These workers of a program, picked at random among all by the seed 0, make so many steps.
pub record MakesSteps (p : Program) (workers steps : ℕ) : Type 0 where
  pub drawn : Drawn
  pub is_draw : IsDraw p workers Uniform 0 (Ok drawn)
  pub steps_are : steps ≡ drawn.steps

-- Without a depth the way is that of words, at random among all that can move. With one it is that of priorities of this depth, and the steps among which
-- workers fall are as many as these workers make when they are picked by words of the seed 0.
abbrev pub IsWay : Program → ℕ → Option ℕ → Way → Type 0
IsWay p workers None way = way ≡ Uniform
IsWay p workers (Some depth) way = (steps : ℕ) × MakesSteps p workers steps × (way ≡ Priorities depth steps)

-- What is answered: the way; or how the draw ends by which the steps are counted, where there is a depth, and there alone.
abbrev pub AnswersWay : Program → ℕ → Option ℕ → Result Way DrawFault → Type 0
AnswersWay p workers depth (Ok way) = IsWay p workers depth way
AnswersWay p workers None (Err fault) = ⊥
AnswersWay p workers (Some depth) (Err fault) = IsDraw p workers Uniform 0 (Err fault)
