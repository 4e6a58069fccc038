-- What is told of many runs.
use Rattle.std.specs.Prelude.{◌≡◌, ◌⊎◌, ℕ, ◌<◌, ℤ, List, map, Result, Ok, Err}
use Rattle.boc_program.specs.declared.program.Program.{Program}
use Rattle.boc_draws.specs.declared.fault.DrawFault.{DrawFault}
use Rattle.boc_draws.specs.declared.fault.DrawFault.TheVariants as faults
use Rattle.boc_draws.specs.declared.way.Way.TheVariants.{Uniform}
use Rattle.boc_draws.specs.Draws.{IsDraw}
use Rattle.boc_remedies.specs.declared.remedy.Remedy.{Remedy}
use Rattle.boc_outcomes.specs.declared.asked.Asked.{Asked}
use Rattle.boc_outcomes.specs.Samples.{EndsBy}
use Rattle.boc_many_runs.specs.declared.many.ManyRuns.{ManyRuns}
use Rattle.boc_many_runs.specs.declared.many_numbers.Spreads.{Spreads}
use Rattle.boc_many_runs.specs.declared.seen.Numbers.{Numbers}
use Rattle.boc_many_runs.specs.Bins.{bins_of}
use Rattle.boc_many_runs.specs.Lines.{AreLines}
use Rattle.boc_many_runs.specs.Runs.{AreColumns, AreFound, Found, IsSingle, Manner}
use Rattle.boc_many_runs.specs.Spreads.{IsSpread}
use Rattle.boc_many_runs.specs.Union.{union_of}

-- the spread of each number of all runs
pub record AreNumbersTold (numbers : List Numbers) (spreads : Spreads) : Type 0 where
  pub rows : IsSpread (map (λ n. n.rows) numbers) spreads.rows
  pub work : IsSpread (map (λ n. n.work) numbers) spreads.work
  pub span : IsSpread (map (λ n. n.span) numbers) spreads.span
  pub end : IsSpread (map (λ n. n.end) numbers) spreads.end
  pub order : IsSpread (map (λ n. n.order) numbers) spreads.order

-- What is told of so many runs with these numbers, where each of these remedies brings what its column has: the spread of each number, a histogram of the ends by
-- which runs are judged, and a line for each remedy that is told.
pub record IsToldOf (runs : ℕ) (numbers : List Numbers) (remedies : List Remedy) (columns : List (List ℤ)) (many : ManyRuns) : Type 0 where
  pub runs_are : many.runs ≡ runs
  pub spreads : AreNumbersTold numbers many.spreads
  pub bins : many.bins.items ≡ bins_of (map (λ n. n.end) numbers) many.spreads.end.least many.spreads.end.most
  pub lines : AreLines remedies columns runs many.lines.items

-- What is told of the runs that are asked for: of the numbers of each, of what is tried in any of them, and of what that brings in each; and the span of the
-- run by one worker.
pub record IsManyRuns (p : Program) (asked : Asked) (m : Manner) (many : ManyRuns) : Type 0 where
  pub all : List Found
  pub all_are : AreFound p asked m asked.runs all
  pub columns : List (List ℤ)
  pub columns_are : AreColumns p asked m (union_of all) asked.runs columns
  pub single : IsSingle p m.sharing many.single
  pub told : IsToldOf asked.runs (map (λ f. f.numbers) all) (union_of all) columns many

-- what is answered: that; or one of the runs, or the one by one worker, has no room for a behaviour; unless memory was refused
abbrev pub AnswersMany : Program → Asked → Manner → Result ManyRuns DrawFault → Type 0
AnswersMany p asked m (Ok many) = IsManyRuns p asked m many
AnswersMany p asked m (Err faults.Behaviours) =
    ((number : ℕ) × (number < asked.runs) × EndsBy p asked number faults.Behaviours) ⊎ IsDraw p 1 Uniform 0 (Err faults.Behaviours)
AnswersMany p asked m (Err faults.Memory) = Unit {0}

-- two say the same, though they stand in other memory
pub record SayTheSame (a b : ManyRuns) : Type 0 where
  pub runs : a.runs ≡ b.runs
  pub spreads : a.spreads ≡ b.spreads
  pub single : a.single ≡ b.single
  pub bins : a.bins.items ≡ b.bins.items
  pub lines : a.lines.items ≡ b.lines.items
