-- The latest end among some rows.
use Rattle.std.specs.Prelude.{◌≡◌, ℕ, ◌<◌, ◌≤◌, Bool, ◌||◌, ◌&&◌, ◌==◌, nat_lt, if◌then◌else◌}
use Rattle.boc_order.specs.declared.latest.Latest.{Latest}

-- whether x ends later than y, or together with it under a smaller number
abbrev pub comes_after : Latest → Latest → Bool
comes_after y x = nat_lt x.end y.end || (x.end == y.end && nat_lt y.row x.row)

-- the one that ends later, or has the smaller number where both end together
abbrev pub later_of : Latest → Latest → Latest
later_of x y = if comes_after y x then y else x

-- the latest end among the rows of a set, and the least row that has it
pub record IsLatest (In : ℕ → Type 0) (ends : ℕ → ℕ) (l : Latest) : Type 0 where
  pub member : In l.row
  pub ends_then : ends l.row ≡ l.end
  pub latest : (a : ℕ) → In a → ends a ≤ l.end
  pub least : (a : ℕ) → In a → ends a ≡ l.end → l.row ≤ a

-- the same, and the end 0 where the set is empty
pub record IsLatestOf (In : ℕ → Type 0) (ends : ℕ → ℕ) (l : Latest) : Type 0 where
  pub none : l.end ≡ 0 → (a : ℕ) → In a → ⊥
  pub some : 0 < l.end → IsLatest In ends l
