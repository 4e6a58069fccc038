-- On the way to medians: what each row took, by its def, and how many rows are of a def.
use Rattle.std.specs.Prelude.{◌≡◌, ℕ, ◌-◌, ◌/◌, ◌<◌, ◌≤◌, ◌==◌, ◌&&◌, nat_lt, nat_le, List, [], ◌∷◌, length, slice_index, count_by}
use Rattle.boc_runs.specs.declared.rows.Row.{Row}
use Rattle.boc_typical.specs.declared.medians.DefTicks.{DefTicks}

-- the def and the ticks of each row
abbrev pub taken : List Row → List ℕ → List DefTicks
taken [] defs = []
taken (x ∷ rows) [] = []
taken (x ∷ rows) (d ∷ defs) = record { def = d; ticks = x.ticks } ∷ taken rows defs

-- for each def below the bound how many of these are the same
pub record AreCounts (defs : List ℕ) (bound : ℕ) (counts : List ℕ) : Type 0 where
  pub whole : length counts ≡ bound
  pub each : (def : ℕ) → def < bound → slice_index counts def ≡ count_by (λ d. d == def) defs

-- how many of these are of a def
abbrev pub of_def : ℕ → List DefTicks → ℕ
of_def def all = count_by (λ (t : DefTicks). t.def == def) all

-- how many of these are of a def and took fewer ticks
abbrev pub less_of : ℕ → ℕ → List DefTicks → ℕ
less_of def ticks all = count_by (λ (t : DefTicks). (t.def == def) && nat_lt t.ticks ticks) all

-- how many of these are of a def and took no more ticks
abbrev pub up_to_of : ℕ → ℕ → List DefTicks → ℕ
up_to_of def ticks all = count_by (λ (t : DefTicks). (t.def == def) && nat_le t.ticks ticks) all

-- for each def how many of these are of it
abbrev pub AreCountsOf : List DefTicks → List ℕ → Type 0
AreCountsOf all counts = (def : ℕ) → def < length counts → slice_index counts def ≡ of_def def all

-- so many of a def come before the one in the middle, where they stand in rising order
abbrev pub before_middle : ℕ → List DefTicks → ℕ
before_middle def all = (of_def def all - 1) / 2

-- the median of what was taken by a def
pub record IsMedianOf (all : List DefTicks) (def median : ℕ) : Type 0 where
  pub few_less : less_of def median all ≤ before_middle def all
  pub more_up_to : before_middle def all < up_to_of def median all

-- for each def the median of what was taken by it, and 0 where nothing was
pub record AreMediansOf (all : List DefTicks) (counts medians : List ℕ) : Type 0 where
  pub whole : length medians ≡ length counts
  pub each : (def : ℕ) → def < length counts → 0 < of_def def all → IsMedianOf all def (slice_index medians def)
  pub none : (def : ℕ) → def < length counts → of_def def all ≡ 0 → slice_index medians def ≡ 0
