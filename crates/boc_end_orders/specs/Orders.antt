-- Orders of spawns by their numbers.
use Rattle.std.specs.Prelude.{ℕ, List, [], slice_index_or}

-- the order of this number
abbrev pub order_at : List (List ℕ) → ℕ → List ℕ
order_at orders n = slice_index_or orders n []
