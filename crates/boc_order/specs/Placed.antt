-- What is known of the rows that have their place in the earliest plan.
use Rattle.std.specs.Prelude.{◌≡◌, ℕ, ◌+◌, ◌*◌, ◌<◌, ◌≤◌, nat_lt, if◌then◌else◌, List, length, Option, Some, None, MatchOption, slice_index, slice_index_or}
use Rattle.boc_program.specs.declared.limits.TheConstants.{MOST_TICKS}
use Rattle.boc_runs.specs.declared.rows.Row.{Row}
use Rattle.boc_runs.specs.Rows.{offset_of}
use Rattle.boc_plans.specs.Plans.{start_of, end_of, IsChild, Ordered}
use Rattle.boc_plans.specs.Chains.{IsSpawnTight, IsOrderTight}
use Rattle.boc_order.specs.declared.latest.Latest.{Latest}

-- the start of a row that is spawned at a tick, and the row that it waits for, given the latest of those before it
abbrev pub placement : ℕ → Latest → ℕ × Option ℕ
placement spawned last = if nat_lt spawned last.end then (last.end, Some last.row) else (spawned, None)

-- what row b waited for: its spawn, where that is tight, else the end of the least row whose end is
abbrev pub IsTight : List Row → List ℕ → ℕ → Option ℕ → Type 0
IsTight rows starts b waits_for = MatchOption waits_for (IsSpawnTight rows starts b)
    (λ a. (IsSpawnTight rows starts b → ⊥) × IsOrderTight rows starts a b × ((other : ℕ) → IsOrderTight rows starts other b → a ≤ other))

-- row b starts as early as it can, and `waits_for` is the row whose end it waits for, where its spawn isn't tight
pub record Placed (rows : List Row) (starts ends : List ℕ) (waits_for : Option ℕ) (b : ℕ) : Type 0 where
  pub main : b ≡ 0 → start_of starts b ≡ 0
  pub ends_then : slice_index ends b ≡ end_of rows starts b
  pub low : slice_index ends b ≤ (b + 1) * MOST_TICKS
  pub spawned : (a : ℕ) → IsChild rows a b → start_of starts a + offset_of rows b ≤ start_of starts b
  pub in_order : (a : ℕ) → Ordered rows a b → end_of rows starts a ≤ start_of starts b
  pub tight : 0 < b → IsTight rows starts b waits_for

-- the first n rows are placed
pub record ArePlaced (rows : List Row) (starts ends : List ℕ) (after : List (Option ℕ)) (n : ℕ) : Type 0 where
  pub starts_len : length starts ≡ n
  pub ends_len : length ends ≡ n
  pub after_len : length after ≡ n
  pub placed : (b : ℕ) → b < n → Placed rows starts ends (slice_index_or after b None) b
