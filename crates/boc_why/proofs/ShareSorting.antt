-- Shares in their order: those that weigh most first.
use Rattle.std.proofs.Common.{ℕ, List}
use Rattle.std.proofs.Common.{is_lt, Ordering}
use Rattle.std.specs.List.Sorted.{IsPermutation, IsSortedBy}
use Rattle.std.proofs.lemmas.List.Sorted.{IsPermutation-sym, Contains-permutation}
use Rattle.boc_order.proofs.HeaviestFirst.{heavy_cmp, heaviest_first, one_moved}
use Rattle.boc_order.proofs.Places.{contains_from_place, place_from_contains}
use Rattle.boc_why.specs.declared.shares.Share.{Share}
use Rattle.boc_why.specs.Shares.{AreShares}
use Rattle.boc_why.specs.ShareTotals.{ListShares}

abbrev key_of : Share → ℕ
key_of s = s.key

abbrev ticks_of : Share → ℕ
ticks_of s = s.ticks

-- how the sort compares two shares
abbrev pub share_cmp : Share → Share → Ordering
share_cmp = heavy_cmp key_of ticks_of

-- shares that a sort has moved, and that it leaves in their order
pub shares_sorted : (keys weights : List ℕ) (xs ys : List Share) → ListShares keys weights xs → IsPermutation xs ys
    → IsSortedBy (λ a b. is_lt (share_cmp a b)) ys → AreShares keys weights ys
shares_sorted keys weights xs ys list moved up = record {
  each = λ i s is.
      let old = place_from_contains xs s (Contains-permutation ys xs s (IsPermutation-sym xs ys moved) (contains_from_place ys i s is)) in
      list.each old.0 s old.1;
  all = λ key stands.
      let old = list.all key stands in
      let new = place_from_contains ys old.1 (Contains-permutation xs ys old.1 moved (contains_from_place xs old.0 old.1 old.2)) in
      (new.0, old.1, new.1, old.3);
  sorted = heaviest_first key_of ticks_of ys up (one_moved key_of xs ys moved list.once);
}
