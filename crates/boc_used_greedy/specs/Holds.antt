-- How rows hold their cowns, as uses: one list for all cowns, so that a cown that is held from start to end is like one that is held while it is used.
use Rattle.std.specs.Prelude.{◌≡◌, ℕ, ◌+◌, ◌<◌, nat_eq, Bool, true, false, cond, List, length, Option, Some, None, slice_get, slice_index}
use Rattle.std.specs.List.{list_any}
use Rattle.boc_runs.specs.declared.rows.Row.{Row}
use Rattle.boc_runs.specs.Rows.{ticks_of, cowns_of}
use Rattle.boc_uses.specs.declared.uses.Use.{Use}
use Rattle.boc_used_greedy.specs.declared.holds.Holds.{Holds}
use Rattle.boc_turns.specs.Turns.{cowns_before, use_of, AreUses}

-- a use from the first tick to the last, whose value is needed
abbrev pub whole_use : ℕ → Use
whole_use ticks = record { first = 1; last = ticks; needed = true }

-- how a row of so many ticks holds a cown of its own that it uses so
abbrev pub hold_by : Bool → Option Use → ℕ → Option Use
hold_by true u ticks = u
hold_by false u ticks = Some (whole_use ticks)

-- a row has a cown
abbrev pub has_cown : List Row → ℕ → ℕ → Bool
has_cown rows r c = list_any (nat_eq c) (cowns_of rows r)

-- How a row holds a cown: not at all where it isn't its own; as it uses it, if the cown is relaxed; else from its first tick to its last.
abbrev pub hold : List Row → List (Option Use) → (ℕ → Bool) → ℕ → ℕ → Option Use
hold rows uses relaxed r c = cond (has_cown rows r c) (hold_by (relaxed c) (use_of rows uses r c) (ticks_of rows r)) None

-- for each cown of each row, in their order, how the row holds it, which is as if it used the cown so
pub record AreHolds (rows : List Row) (uses : List (Option Use)) (relaxed : ℕ → Bool) (holds : List (Option Use)) : Type 0 where
  pub are_uses : AreUses rows holds
  pub each : (r c : ℕ) → r < length rows → use_of rows holds r c ≡ hold rows uses relaxed r c

-- how each row holds its cowns, with the places at which the cowns of each row begin
pub record HasHolds (rows : List Row) (h : Holds) : Type 0 where
  pub whole : length h.begins.items ≡ length rows
  pub begins : (r : ℕ) → r < length rows → slice_index h.begins.items r ≡ cowns_before rows r
  pub are_uses : AreUses rows h.all.items

-- a place among the cowns of all rows is that of a cown of a row
pub record IsPlace (rows : List Row) (r c place : ℕ) : Type 0 where
  pub own : ℕ
  pub there : slice_get (cowns_of rows r) own ≡ Some c
  pub is : place ≡ cowns_before rows r + own
