-- The least, the median and the most of some numbers.
use Rattle.std.specs.Prelude.{◌≡◌, ℕ, ◌-◌, ◌/◌, List, length, Some, slice_get}
use Rattle.std.specs.List.Sorted.{IsPermutation, IsSorted}
use Rattle.std.specs.declared.cmp.Ordering.{Ordering}
use Rattle.std.specs.Ordering.{nat_cmp}
use Rattle.boc_many_runs.specs.declared.spread.Spread.{Spread}

-- these are the numbers in rising order
pub record InOrder {X : Type 0} (cmp : X → X → Ordering) (xs ys : List X) : Type 0 where
  pub same : IsPermutation xs ys
  pub rising : IsSorted cmp ys

-- The least, the median and the most of some numbers: in rising order the first, the one in the middle, and the last. Of an even number of them the median is
-- the lower of the two in the middle.
pub record AreSpread {X : Type 0} (cmp : X → X → Ordering) (xs : List X) (least median most : X) : Type 0 where
  pub ys : List X
  pub in_order : InOrder cmp xs ys
  pub least_is : slice_get ys 0 ≡ Some least
  pub median_is : slice_get ys ((length xs - 1) / 2) ≡ Some median
  pub most_is : slice_get ys (length xs - 1) ≡ Some most

-- the same of numbers that are not below 0
abbrev pub IsSpread : List ℕ → Spread → Type 0
IsSpread xs spread = AreSpread nat_cmp xs spread.least spread.median spread.most
