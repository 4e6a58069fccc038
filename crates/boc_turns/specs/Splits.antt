-- Turns for which bodies may wait or not: all that can be done to the relaxed cowns alone.
use Rattle.std.specs.Prelude.{◌≡◌, ℕ, ◌+◌, ◌-◌, ◌<◌, ◌≤◌, Bool, false, List, length, map, Option, Some}
use Rattle.std.specs.Option.{option_map}
use Rattle.boc_runs.specs.declared.rows.Row.{Row}
use Rattle.boc_runs.specs.Rows.{offset_of, ticks_of}
use Rattle.boc_plans.specs.Plans.{IsChild, ConflictOn}
use Rattle.boc_uses.specs.declared.uses.Use.{Use}
use Rattle.boc_turns.specs.Turns.{use_of, Times, IsTurn}

-- the same use of a cown whose value the row doesn't need
abbrev pub detached_use : Use → Use
detached_use u = record u { needed = false }

-- the uses, as if no row needed a value, so that no body waits for a turn
abbrev pub detached : List (Option Use) → List (Option Use)
detached uses = map (option_map detached_use) uses

-- A row makes its ticks one after the other, no sooner than it is spawned, and holds the cowns that are not relaxed from start to end, in the order of rows.
-- Its turn at a relaxed cown begins with the tick of its first use, or later, and takes as many ticks as there are from the first use to the last, or more.
-- Turns at a cown follow one another in the order of rows. Whether the body waits for them is left open. `over` says when each turn is over.
pub record KeepsSplit (rows : List Row) (uses : List (Option Use)) (relaxed : ℕ → Bool) (times : Times) (over : ℕ → ℕ → ℕ) (b : ℕ) : Type 0 where
  pub one_by_one : (k : ℕ) → k < ticks_of rows b → times.made b k + 1 ≤ times.made b (k + 1)
  pub spawned : (a : ℕ) → IsChild rows a b → times.made a (offset_of rows b) ≤ times.made b 0
  pub in_order : (a c : ℕ) → a < b → ConflictOn rows c a b → relaxed c ≡ false → times.made a (ticks_of rows a) ≤ times.made b 0
  pub from_first : (c : ℕ) (u : Use) → IsTurn rows uses relaxed b c u → times.made b u.first ≤ times.begun b c + 1
  pub unbroken : (c : ℕ) (u : Use) → IsTurn rows uses relaxed b c u → times.begun b c + (u.last + 1 - u.first) ≤ over b c
  pub apart : (a c : ℕ) (u v : Use) → IsTurn rows uses relaxed b c u → a < b → ConflictOn rows c a b → use_of rows uses a c ≡ Some v
      → over a c ≤ times.begun b c

-- by this tick a row has ended, and its turns are over
pub record IsSplitOverBy (rows : List Row) (uses : List (Option Use)) (relaxed : ℕ → Bool) (times : Times) (over : ℕ → ℕ → ℕ) (tick r : ℕ) : Type 0 where
  pub row : times.made r (ticks_of rows r) ≤ tick
  pub turns : (c : ℕ) (u : Use) → IsTurn rows uses relaxed r c u → over r c ≤ tick

-- some times keep these rules, and by this tick all rows have ended, and all turns are over
pub record SplitEndsBy (rows : List Row) (uses : List (Option Use)) (relaxed : ℕ → Bool) (tick : ℕ) : Type 0 where
  pub times : Times
  pub over : ℕ → ℕ → ℕ
  pub keeps : (b : ℕ) → b < length rows → KeepsSplit rows uses relaxed times over b
  pub ends : (r : ℕ) → r < length rows → IsSplitOverBy rows uses relaxed times over tick r
