-- Which cowns are left out one by one, and which of these stands for each cown.
use Rattle.std.specs.Prelude.{◌≡◌, ℕ, ◌+◌, ◌*◌, ◌/◌, ◌%◌, ◌<◌, ◌≤◌, Bool, false, List, [], length, slice_index, slice_index_or}
use Rattle.std.specs.List.{Contains}
use Rattle.boc_program.specs.declared.limits.TheConstants.{MOST_COWNS}
use Rattle.boc_runs.specs.declared.rows.Row.{Row}
use Rattle.boc_runs.specs.Rows.{cowns_of}
use Rattle.boc_runs.specs.Changes.{without}
use Rattle.boc_plans.specs.Greedy.{IsSpan}
use Rattle.boc_sweep.specs.declared.lanes.TheConstants.{LANES}

-- none of the first n rows has the cown
abbrev pub HaveNot : List Row → ℕ → ℕ → Type 0
HaveNot rows n cown = (r : ℕ) → r < n → Contains (cowns_of rows r) cown → ⊥

-- none of the first n rows has a cown of which it is not told that one has it
abbrev pub TellHad : List Row → ℕ → List Bool → Type 0
TellHad rows n had = (cown : ℕ) → cown < MOST_COWNS → slice_index_or had cown false ≡ false → HaveNot rows n cown

-- Each cown below a count has the place of one that stands for it: without the one the rows are what they are without the other.
pub record StandForAll (rows : List Row) (count : ℕ) (cowns places : List ℕ) : Type 0 where
  pub whole : length places ≡ count
  pub there : (cown : ℕ) → cown < count → slice_index places cown < length cowns
  pub alike : (cown : ℕ) → cown < count → without (slice_index cowns (slice_index places cown)) rows ≡ without cown rows

-- the tick at a place of ticks that stand side by side in lanes, one group of them behind the other
abbrev pub tick_at : List (List ℕ) → ℕ → ℕ
tick_at found place = slice_index (slice_index_or found (place / LANES) []) (place % LANES)

-- in each lane that stands for a cown of the group the span that the rows have without that cown
abbrev pub AreSpansOfGroup : List Row → List ℕ → ℕ → List ℕ → Type 0
AreSpansOfGroup rows cowns group spans = (lane : ℕ) → lane < LANES → group * LANES + lane < length cowns
    → IsSpan (without (slice_index cowns (group * LANES + lane)) rows) (slice_index spans lane)

-- for each of some cowns the span that the rows have without it
pub record AreSpansWithout (rows : List Row) (cowns : List ℕ) (found : List (List ℕ)) : Type 0 where
  pub enough : length cowns ≤ length found * LANES
  pub at : (place : ℕ) → place < length cowns → IsSpan (without (slice_index cowns place) rows) (tick_at found place)
