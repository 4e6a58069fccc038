-- For how many ticks the rows that write a cown use it.
use Rattle.std.specs.Prelude.{◌≡◌, ℕ, zero, suc, ◌+◌, ◌-◌, ◌*◌, ◌<◌, ◌≤◌, cond, List, length, Option, Some, None, slice_index}
use Rattle.boc_program.specs.declared.limits.TheConstants.{MOST_COWNS, MOST_TICKS}
use Rattle.boc_runs.specs.declared.rows.Row.{Row}
use Rattle.boc_uses.specs.declared.uses.Use.{Use}
use Rattle.boc_turns.specs.Course.{wrote_cown}
use Rattle.boc_turns.specs.Turns.{use_of}

-- how many ticks there are from the first use to the last
abbrev pub use_ticks : Option Use → ℕ
use_ticks None = 0
use_ticks (Some u) = u.last + 1 - u.first

-- for how many ticks those of the first n rows that write a cown use it
abbrev pub ticks_before : List Row → List (Option Use) → ℕ → ℕ → ℕ
ticks_before rows uses c zero = 0
ticks_before rows uses c (suc n) = ticks_before rows uses c n + cond (wrote_cown rows n c) (use_ticks (use_of rows uses n c)) 0

-- for how many ticks the rows that write a cown use it
abbrev pub ticks_used : List Row → List (Option Use) → ℕ → ℕ
ticks_used rows uses c = ticks_before rows uses c (length rows)

-- for each cown, at its number, for how many ticks those of the first n rows that write it use it
pub record AreTicks (rows : List Row) (uses : List (Option Use)) (n : ℕ) (totals : List ℕ) : Type 0 where
  pub whole : length totals ≡ MOST_COWNS
  pub at : (c : ℕ) → c < MOST_COWNS → slice_index totals c ≡ ticks_before rows uses c n
  pub low : (c : ℕ) → c < MOST_COWNS → slice_index totals c ≤ n * MOST_TICKS
