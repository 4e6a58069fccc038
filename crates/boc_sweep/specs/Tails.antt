-- Tails, from the last row back to a given one.
use Rattle.std.specs.Prelude.{◌≡◌, ℕ, ◌+◌, ◌*◌, ◌<◌, ◌≤◌, ◌⊎◌, List, length}
use Rattle.boc_program.specs.declared.limits.TheConstants.{MOST_TICKS}
use Rattle.boc_runs.specs.declared.rows.Row.{Row}
use Rattle.boc_runs.specs.Rows.{offset_of, ticks_of}
use Rattle.boc_plans.specs.Plans.{IsChild}
use Rattle.boc_order.specs.Waits.{IsNear}

-- what makes the tail of a row's start
abbrev pub StartTight : List Row → (ℕ → ℕ) → (ℕ → ℕ) → ℕ → ℕ → Type 0
StartTight rows s e k r = (r < k × (s r ≡ 0)) ⊎ (k ≤ r × (ticks_of rows r + e r ≡ s r))
    ⊎ ((b : ℕ) × (k ≤ b) × IsChild rows r b × (offset_of rows b + s b ≡ s r))

-- the tails of the starts and the ends of rows are those over the own links of the rows from row k on, and over the spawns and waits of these rows
pub record TailsFrom (rows : List Row) (s e : ℕ → ℕ) (k : ℕ) : Type 0 where
  pub spawned : (a b : ℕ) → IsChild rows a b → k ≤ b → offset_of rows b + s b ≤ s a
  pub own : (r : ℕ) → k ≤ r → r < length rows → ticks_of rows r + e r ≤ s r
  pub waits : (a b : ℕ) → k ≤ b → IsNear rows a b → s b ≤ e a
  pub tight_start : (r : ℕ) → r < length rows → StartTight rows s e k r
  pub tight_end : (r : ℕ) → r < length rows → (e r ≡ 0) ⊎ ((b : ℕ) × (k ≤ b) × IsNear rows r b × (s b ≡ e r))
  pub low : (r : ℕ) → r < length rows → s r + r * MOST_TICKS ≤ length rows * MOST_TICKS
