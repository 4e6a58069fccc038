-- The rows before a row on its cowns.
use Rattle.std.specs.Prelude.{◌≡◌, ℕ, ◌<◌, List, [], ◌∷◌, length, Option, Some, None, slice_set, slice_index, slice_index_or}
use Rattle.std.specs.List.{Contains}
use Rattle.boc_runs.specs.Lives.{Ended}
use Rattle.boc_runs.specs.Legal.{Entry, life_of, entry_cowns}

-- of the rows below a number, the latest with this cown, if there is one
abbrev pub IsLatest : List Entry → ℕ → ℕ → Option ℕ → Type 0
IsLatest run cown number None = (r : ℕ) → r < number → Contains (entry_cowns run r) cown → ⊥
IsLatest run cown number (Some latest) =
    (latest < number) × Contains (entry_cowns run latest) cown
    × ((r : ℕ) → latest < r → r < number → Contains (entry_cowns run r) cown → ⊥)

-- for each cown of a row, the latest row before it with this cown
pub record AreBefore (run : List Entry) (row : ℕ) (before : List (Option ℕ)) : Type 0 where
  pub all : length before ≡ length (entry_cowns run row)
  pub each : (k : ℕ) → k < length (entry_cowns run row) →
      IsLatest run (slice_index (entry_cowns run row) k) row (slice_index_or before k None)

-- the latest row on each cown, after a row with these cowns
abbrev pub noted : List (Option ℕ) → List ℕ → ℕ → List (Option ℕ)
noted latest [] row = latest
noted latest (cown ∷ cowns) row = noted (slice_set latest cown (Some row)) cowns row

-- a row is over, if there is one
abbrev pub IsOverAt : List Entry → Option ℕ → Type 0
IsOverAt run None = Unit {0}
IsOverAt run (Some row) = life_of run row ≡ Some Ended
