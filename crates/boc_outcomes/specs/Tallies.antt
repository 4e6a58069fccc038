-- Which ends samples have, and how often.
use Rattle.std.specs.Prelude.{◌≡◌, ◌≢◌, ◌⊎◌, ℕ, ◌<◌, ◌≤◌, min, max, ℤ, Bool, List, length, Option, Some, None, MatchOption, Result, Ok, Err, slice_get}
use Rattle.std.specs.BTreeMap as tree
use Rattle.std.specs.BTreeMap.{BTreeMap}
use Rattle.std.specs.Cmp.Lexicographic.{pointwise, slice_cmp}
use Rattle.std.specs.List.{Contains, count_by, sum_by}
use Rattle.std.specs.Ordering.{int_cmp, int_eq}
use Rattle.std.specs.declared.alloc.Global.{Global}
use Rattle.std.specs.declared.vec.Vec.{Vec}
use Rattle.boc_program.specs.declared.program.Program.{Program}
use Rattle.boc_draws.specs.declared.fault.DrawFault.{DrawFault}
use Rattle.boc_draws.specs.declared.fault.DrawFault.TheVariants as faults
use Rattle.boc_outcomes.specs.declared.asked.Asked.{Asked}
use Rattle.boc_outcomes.specs.declared.bounds.Bounds.{Bounds}
use Rattle.boc_outcomes.specs.declared.tally.Outcome.{Outcome}
use Rattle.boc_outcomes.specs.declared.tally.Outcomes.{Outcomes}
use Rattle.boc_outcomes.specs.declared.tally.Tally.{Tally}
use Rattle.boc_outcomes.specs.Samples.{Sample, AreSamples, EndsBy, seed_of}

-- ---- bounds

-- of those samples that are so, the least and the greatest of what is measured
pub record AreBounds (So : Sample → Type 0) (measure : Sample → ℕ) (samples : List Sample) (bounds : Bounds) : Type 0 where
  pub within : (s : Sample) → Contains samples s → So s → (bounds.least ≤ measure s) × (measure s ≤ bounds.most)
  pub least_is : (s : Sample) × Contains samples s × So s × (measure s ≡ bounds.least)
  pub most_is : (s : Sample) × Contains samples s × So s × (measure s ≡ bounds.most)

-- the same, where there may be no such sample
abbrev pub AreBoundsIfAny : (Sample → Type 0) → (Sample → ℕ) → List Sample → Option Bounds → Type 0
AreBoundsIfAny So measure samples None = (s : Sample) → Contains samples s → So s → ⊥
AreBoundsIfAny So measure samples (Some bounds) = AreBounds So measure samples bounds

-- bounds that also have this number within
abbrev pub widened : Option Bounds → ℕ → Bounds
widened None n = record { least = n; most = n }
widened (Some bounds) n = record { least = min bounds.least n; most = max bounds.most n }

-- any sample
abbrev pub Any : Sample → Type 0
Any sample = Unit {0}

-- the bounds of the numbers of rows
abbrev pub AreRows : List Sample → Option Bounds → Type 0
AreRows samples bounds = AreBoundsIfAny Any (λ s. s.rows) samples bounds

-- the bounds of the spans
abbrev pub AreSpans : List Sample → Option Bounds → Type 0
AreSpans samples bounds = AreBoundsIfAny Any (λ s. s.span) samples bounds

-- ---- outcomes

-- a sample came to these values
abbrev pub comes_to : List ℤ → Sample → Bool
comes_to values sample = pointwise int_eq sample.values values

-- how many samples came to these values
abbrev pub runs_to : List ℤ → List Sample → ℕ
runs_to values samples = count_by (comes_to values) samples

-- this is the number of the first sample that came to these values
pub record IsFirstTo (values : List ℤ) (samples : List Sample) (number : ℕ) : Type 0 where
  pub sample : Sample
  pub there : slice_get samples number ≡ Some sample
  pub same : sample.values ≡ values
  pub none_before : (i : ℕ) (s : Sample) → i < number → slice_get samples i ≡ Some s → s.values ≢ values

-- how many samples came to an outcome's values, the number and the seed of the first of these, and the bounds of their spans
pub record IsOutcome (seed : ℕ) (samples : List Sample) (outcome : Outcome) : Type 0 where
  pub runs : outcome.runs ≡ runs_to outcome.values.items samples
  pub first : IsFirstTo outcome.values.items samples outcome.first
  pub seed_is : outcome.seed ≡ seed_of seed outcome.first
  pub spans : AreBounds (λ s. s.values ≡ outcome.values.items) (λ s. s.span) samples outcome.spans

-- an outcome with these values stands among these
pub record HasOutcome (outcomes : List Outcome) (values : List ℤ) : Type 0 where
  pub place : ℕ
  pub outcome : Outcome
  pub there : slice_get outcomes place ≡ Some outcome
  pub same : outcome.values.items ≡ values

-- the outcomes of samples, in whatever order: each list of values that a sample came to has one
pub record HasOutcomes (seed : ℕ) (samples : List Sample) (outcomes : List Outcome) : Type 0 where
  pub each : (i : ℕ) (outcome : Outcome) → slice_get outcomes i ≡ Some outcome → IsOutcome seed samples outcome
  pub all : (s : Sample) → Contains samples s → HasOutcome outcomes s.values
  pub distinct : (i j : ℕ) (a b : Outcome) → i < j → slice_get outcomes i ≡ Some a → slice_get outcomes j ≡ Some b
      → a.values.items ≢ b.values.items

-- the one is more frequent, or as frequent and came first
abbrev pub StandsBefore : Outcome → Outcome → Type 0
StandsBefore a b = (b.runs < a.runs) ⊎ ((a.runs ≡ b.runs) × (a.first < b.first))

-- outcomes stand in their order: the most frequent first, and of those that are as frequent the one that came first
abbrev pub StandInOrder : List Outcome → Type 0
StandInOrder outcomes = (i j : ℕ) (a b : Outcome) → i < j → slice_get outcomes i ≡ Some a → slice_get outcomes j ≡ Some b → StandsBefore a b

-- the tally of samples: their outcomes in order, and the bounds of the numbers of rows and of the spans of all
pub record IsTally (seed : ℕ) (samples : List Sample) (outcomes : Outcomes) : Type 0 where
  pub outcomes_are : HasOutcomes seed samples outcomes.all.items
  pub in_order : StandInOrder outcomes.all.items
  pub rows : AreRows samples (Some outcomes.rows)
  pub spans : AreSpans samples (Some outcomes.spans)

-- no outcome has these values
abbrev pub NoneHas : List Outcome → List ℤ → Type 0
NoneHas outcomes values = (i : ℕ) (outcome : Outcome) → slice_get outcomes i ≡ Some outcome → outcome.values.items ≢ values

-- the outcome at this place has these values
pub record StandsAt (outcomes : List Outcome) (values : List ℤ) (place : ℕ) : Type 0 where
  pub outcome : Outcome
  pub there : slice_get outcomes place ≡ Some outcome
  pub same : outcome.values.items ≡ values

-- the place that is kept for these values
abbrev pub kept_place : BTreeMap (Vec ℤ Global) ℕ → Vec ℤ Global → Option ℕ
kept_place places values = tree.get (λ a b. slice_cmp int_cmp a.items b.items) places values

-- for all values: the place that is kept is that of their outcome, and where none is kept they have no outcome
abbrev pub ArePlaces : List Outcome → BTreeMap (Vec ℤ Global) ℕ → Type 0
ArePlaces outcomes places = (values : Vec ℤ Global)
    → MatchOption (kept_place places values) (NoneHas outcomes values.items) (StandsAt outcomes values.items)

-- the tally so far
pub record Tallies (seed : ℕ) (samples : List Sample) (tally : Tally) : Type 0 where
  pub outcomes_are : HasOutcomes seed samples tally.all.items
  pub places_are : ArePlaces tally.all.items tally.places
  pub rows : AreRows samples tally.rows
  pub spans : AreSpans samples tally.spans

-- ---- when two are the same

-- two outcomes are the same
pub record IsSame (a b : Outcome) : Type 0 where
  pub values : a.values.items ≡ b.values.items
  pub runs : a.runs ≡ b.runs
  pub first : a.first ≡ b.first
  pub seed : a.seed ≡ b.seed
  pub spans : a.spans ≡ b.spans

-- two tallies are the same, outcome by outcome
pub record AreSame (a b : Outcomes) : Type 0 where
  pub rows : a.rows ≡ b.rows
  pub spans : a.spans ≡ b.spans
  pub many : length a.all.items ≡ length b.all.items
  pub each : (i : ℕ) (x y : Outcome) → slice_get a.all.items i ≡ Some x → slice_get b.all.items i ≡ Some y → IsSame x y

-- how many runs outcomes have together
abbrev pub all_runs : List Outcome → ℕ
all_runs outcomes = sum_by (λ o. o.runs) outcomes

-- ---- what is answered

-- the tally of what the draws that are asked for came to; or one of them had no room for a behaviour; unless memory was refused
abbrev pub AnswersAsked : Program → Asked → Result Outcomes DrawFault → Type 0
AnswersAsked p asked (Ok outcomes) = (samples : List Sample) × AreSamples p asked asked.runs samples × IsTally asked.seed samples outcomes
AnswersAsked p asked (Err faults.Behaviours) = (number : ℕ) × (number < asked.runs) × EndsBy p asked number faults.Behaviours
AnswersAsked p asked (Err faults.Memory) = Unit {0}
