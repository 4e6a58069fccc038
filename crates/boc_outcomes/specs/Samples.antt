-- What draws come to.
use Rattle.std.specs.Prelude.{◌≡◌, ℕ, ◌+◌, ◌%◌, ◌^◌, ◌<◌, ◌≤◌, ℤ, List, length, Result, Ok, Err, Some, slice_get}
use Rattle.std.specs.declared.alloc.Global.{Global}
use Rattle.std.specs.declared.vec.Vec.{Vec}
use Rattle.boc_program.specs.declared.limits.TheConstants.{MOST_RUNNERS, MOST_RUNS}
use Rattle.boc_program.specs.declared.program.Program.{Program}
use Rattle.boc_plans.specs.declared.sharing.Sharing.TheVariants.{Exclusive}
use Rattle.boc_plans.specs.Greedy.{IsSpan}
use Rattle.boc_plans.specs.Seen.{seen}
use Rattle.boc_draws.specs.declared.drawing.Drawn.{Drawn}
use Rattle.boc_draws.specs.declared.fault.DrawFault.{DrawFault}
use Rattle.boc_draws.specs.declared.fault.DrawFault.TheVariants as faults
use Rattle.boc_draws.specs.declared.way.Way.{Way}
use Rattle.boc_draws.specs.Draws.{IsDraw}
use Rattle.boc_outcomes.specs.declared.asked.Asked.{Asked}
use Rattle.boc_outcomes.specs.declared.sampling.Sampled.{Sampled}

-- what one draw came to: the values of the cowns at its end, how many rows it has, and the span of these as cowns are exclusive
pub record Sample : Type 0 where
  pub values : List ℤ
  pub rows : ℕ
  pub span : ℕ

-- the sample that is kept so
abbrev pub sample_of : Sampled → Sample
sample_of s = record { values = s.values.items; rows = s.rows; span = s.span }

-- so many workers, picked in this way by the words of this seed, come to this
pub record IsSample (p : Program) (workers : ℕ) (way : Way) (seed : ℕ) (sample : Sample) : Type 0 where
  pub drawn : Drawn
  pub is_draw : IsDraw p workers way seed (Ok drawn)
  pub values_are : sample.values ≡ drawn.values.items
  pub rows_are : sample.rows ≡ length drawn.record.rows
  pub span_is : IsSpan (seen Exclusive drawn.record.rows) sample.span

-- the seed of the draw of this number, counted from 0: they go on from the first one, and from the greatest of 64 bits to 0
abbrev pub seed_of : ℕ → ℕ → ℕ
seed_of first number = (first + number) % 2 ^ 64

-- as many draws may be asked for, and as many workers
pub record IsAsked (asked : Asked) : Type 0 where
  pub runs : 1 ≤ asked.runs
  pub few_runs : asked.runs ≤ MOST_RUNS
  pub workers : 1 ≤ asked.workers
  pub few_workers : asked.workers ≤ MOST_RUNNERS

-- the draw of this number comes to this
abbrev pub IsSampleOf : Program → Asked → ℕ → Sample → Type 0
IsSampleOf p asked number sample = IsSample p asked.workers asked.way (seed_of asked.seed number) sample

-- the draw of this number ends by this fault
abbrev pub EndsBy : Program → Asked → ℕ → DrawFault → Type 0
EndsBy p asked number fault = IsDraw p asked.workers asked.way (seed_of asked.seed number) (Err fault)

-- what the first so many draws came to, in their order
pub record AreSamples (p : Program) (asked : Asked) (count : ℕ) (samples : List Sample) : Type 0 where
  pub all : length samples ≡ count
  pub each : (number : ℕ) (sample : Sample) → slice_get samples number ≡ Some sample → IsSampleOf p asked number sample

-- what a draw answers: what it came to, or its fault
abbrev pub IsSampled : Program → Asked → ℕ → Result Sampled DrawFault → Type 0
IsSampled p asked number (Ok sampled) = IsSampleOf p asked number (sample_of sampled)
IsSampled p asked number (Err fault) = EndsBy p asked number fault

-- what the draws from one number on, up to another one, came to, in their order
pub record AreSampled (p : Program) (asked : Asked) (from to : ℕ) (all : List Sampled) : Type 0 where
  pub whole : from + length all ≡ to
  pub each : (k : ℕ) (sampled : Sampled) → slice_get all k ≡ Some sampled → IsSampleOf p asked (from + k) (sample_of sampled)

-- what they answer: what all of them came to; or one of them had no room for a behaviour; unless memory was refused
abbrev pub IsRound : Program → Asked → ℕ → ℕ → Result (Vec Sampled Global) DrawFault → Type 0
IsRound p asked from to (Ok all) = AreSampled p asked from to all.items
IsRound p asked from to (Err faults.Behaviours) = (number : ℕ) × (number < to) × EndsBy p asked number faults.Behaviours
IsRound p asked from to (Err faults.Memory) = Unit {0}
