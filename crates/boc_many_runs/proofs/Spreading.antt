-- The least and the most of some numbers, and that these and the median are among them.
use Rattle.std.proofs.Common.{◌≡◌, ℕ, ◌-◌, ◌<◌, ◌≤◌, List, length, get_or, arith, Some}
use Rattle.std.specs.Prelude.{slice_get}
use Rattle.std.specs.List.{Contains}
use Rattle.std.specs.Ordering.{nat_cmp}
use Rattle.std.specs.declared.cmp.Ordering.{Ordering}
use Rattle.std.proofs.lemmas.List.Sorted.{Contains-permutation, IsNonDecreasingBy-from_sort, IsPermutation-sym, length_permutation}
use Rattle.std.proofs.lemmas.Option.{get_or_from_slice_get, slice_get_within}
use Rattle.boc_many_runs.specs.Spreads.{AreSpread}

-- what stands in the numbers in order is one of the numbers
member : {X : Type 0} (cmp : X → X → Ordering) (xs : List X) (least median most : X) (s : AreSpread cmp xs least median most) (k : ℕ) (x : X)
    → slice_get s.ys k ≡ Some x → Contains xs x
member cmp xs least median most s k x is =
    Contains-permutation s.ys xs x (IsPermutation-sym xs s.ys s.in_order.same) (k, slice_get_within s.ys k x is, get_or_from_slice_get s.ys k x x is)

pub members : {X : Type 0} (cmp : X → X → Ordering) (xs : List X) (least median most : X) → AreSpread cmp xs least median most
    → Contains xs least × Contains xs median × Contains xs most
members cmp xs least median most s = (
  member cmp xs least median most s 0 least s.least_is,
  member cmp xs least median most s _ median s.median_is,
  member cmp xs least median most s _ most s.most_is,
)

module _ (xs : List ℕ) (least median most : ℕ) (s : AreSpread nat_cmp xs least median most) where
  rises : (i j d : ℕ) → i ≤ j → j < length s.ys → get_or s.ys i d ≤ get_or s.ys j d
  rises = IsNonDecreasingBy-from_sort (λ x. x) s.ys s.in_order.rising

  -- no number is less than the least, or more than the most
  pub bounds : (x : ℕ) → Contains xs x → (least ≤ x) × (x ≤ most)
  bounds x is =
      let (k, low, at) = Contains-permutation xs s.ys x s.in_order.same is in
      let long : length s.ys ≡ length xs = length_permutation xs s.ys s.in_order.same in (
        omega (arith, rises 0 k x (omega arith) low, get_or_from_slice_get s.ys 0 least x s.least_is, at),
        omega (
          arith,
          rises k (length xs - 1) x (omega (arith, low, long)) (omega (arith, low, long)),
          get_or_from_slice_get s.ys (length xs - 1) most x s.most_is,
          at,
        ),
      )

  pub in_order : least ≤ most
  in_order =
      let last : length xs - 1 < length s.ys = slice_get_within s.ys (length xs - 1) most s.most_is in
      omega (
        arith,
        rises 0 (length xs - 1) most (omega arith) last,
        get_or_from_slice_get s.ys 0 least most s.least_is,
        get_or_from_slice_get s.ys (length xs - 1) most most s.most_is,
      )
