-- Cowns in their order: those that are held longest first.
use Rattle.std.proofs.Common.{◌≡◌, ℕ, ◌<◌, List, arith, sym, ap, ◌∙◌, refl, Some}
use Rattle.std.proofs.Common.{is_lt, Ordering}
use Rattle.std.specs.Prelude.{slice_get}
use Rattle.std.specs.List.Sorted.{IsPermutation, IsSortedBy}
use Rattle.std.proofs.lemmas.List.Sorted.{IsPermutation-sym, Contains-permutation, length_permutation}
use Rattle.std.proofs.lemmas.Option.{get_or_from_slice_get, slice_get_within}
use Rattle.boc_order.proofs.HeaviestFirst.{HaveOne, heavy_cmp, heaviest_first, one_moved}
use Rattle.boc_order.proofs.Places.{contains_from_place, place_from_contains}
use Rattle.boc_cowns.specs.declared.hot.HotCown.{HotCown}
use Rattle.boc_cowns.specs.declared.columns.Columns.{Columns}
use Rattle.boc_cowns.specs.Hot.{AreSorted}
use Rattle.boc_cowns.specs.Columns.{AreListed, TellColumns, row_of}

abbrev number_of : HotCown → ℕ
number_of own = own.cown

abbrev held_of : HotCown → ℕ
held_of own = own.held

-- how the sort compares two cowns
abbrev pub hot_cmp : HotCown → HotCown → Ordering
hot_cmp = heavy_cmp number_of held_of

module _ (columns : Columns) (count : ℕ) where
  -- what stands at place k is the cown k
  listed_at : (list : List HotCown) → AreListed columns count list → (k : ℕ) (own : HotCown) → slice_get list k ≡ Some own → own ≡ row_of columns k
  listed_at list are k own is =
      sym (get_or_from_slice_get list k own own is)
      ∙ get_or_from_slice_get list k (row_of columns k) own (are.at k (omega (arith, slice_get_within list k own is, are.whole)))

  listed_number : (list : List HotCown) → AreListed columns count list → (k : ℕ) (own : HotCown) → slice_get list k ≡ Some own → own.cown ≡ k
  listed_number list are k own is = ap (λ (h : HotCown). h.cown) (listed_at list are k own is)

  numbers_apart : (list : List HotCown) → AreListed columns count list → HaveOne number_of list
  numbers_apart list are i j a b l ia ib e = omega (arith, l, e, listed_number list are i a ia, listed_number list are j b ib)

  module _ (xs ys : List HotCown) (are : AreListed columns count xs) (moved : IsPermutation xs ys) where
    -- each of those that were moved stood at its number
    pub moved_is : (i : ℕ) (own : HotCown) → slice_get ys i ≡ Some own → (own ≡ row_of columns own.cown) × (own.cown < count)
    moved_is i own is =
        let old = place_from_contains xs own (Contains-permutation ys xs own (IsPermutation-sym xs ys moved) (contains_from_place ys i own is)) in
        let number : own.cown ≡ old.0 = listed_number xs are old.0 own old.1 in
        (listed_at xs are old.0 own old.1 ∙ ap (row_of columns) (sym number), omega (arith, number, slice_get_within xs old.0 own old.1, are.whole))

    pub sorted_tell : TellColumns columns ys
    sorted_tell = λ i own is. (moved_is i own is).0

    -- cowns that a sort has moved, and that it leaves in their order
    pub cowns_sorted : IsSortedBy (λ a b. is_lt (hot_cmp a b)) ys → AreSorted count ys
    cowns_sorted up = record {
      whole = omega (arith, length_permutation xs ys moved, are.whole);
      below = λ i own is. (moved_is i own is).1;
      all = λ cown h.
          let new = place_from_contains ys (row_of columns cown)
          (Contains-permutation xs ys (row_of columns cown) moved (contains_from_place xs cown (row_of columns cown) (are.at cown h))) in
          (new.0, row_of columns cown, new.1, refl);
      sorted = heaviest_first number_of held_of ys up (one_moved number_of xs ys moved (numbers_apart xs are));
    }
