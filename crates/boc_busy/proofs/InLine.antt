-- Stints in the order of their workers and starts.
use Rattle.std.proofs.Common.{◌≡◌, ◌≢◌, ℕ, ◌+◌, ◌<◌, ◌≤◌, ◌⊎◌, List, [], ◌∷◌, ◌++◌, length, subst, get_or, arith, sym, ◌∙◌, ⊎_elim, inl, inr, Some}
use Rattle.std.proofs.Common.{false, true≢false, is_lt, Ordering, Less, Equal}
use Rattle.std.specs.Prelude.{slice_get}
use Rattle.std.specs.Cmp.{IsTotalOrder, nat_cmp_is}
use Rattle.std.specs.List.Sorted.{IsPermutation, IsSortedBy}
use Rattle.std.specs.Ordering.{nat_cmp, ordering_then, on}
use Rattle.std.proofs.lemmas.Bool.{cases_order}
use Rattle.std.proofs.lemmas.Cmp.{nat_cmp_total, then_total, on_total}
use Rattle.std.proofs.lemmas.List.Sorted.{ranks_by, sorted_far, IsPermutation-sym, Contains-permutation}
use Rattle.std.proofs.lemmas.Option.{get_or_from_slice_get, slice_get-get_or, slice_get_within}
use Rattle.boc_order.proofs.HeaviestFirst.{HaveOne, one_moved}
use Rattle.boc_order.proofs.Places.{contains_from_place, place_from_contains, pushed_cases}
use Rattle.boc_busy.specs.declared.stints.Stint.{Stint}
use Rattle.boc_busy.specs.Stints.{AreInLine, AreStints, IsStint}

-- how the sort compares two stints
abbrev pub stint_cmp : Stint → Stint → Ordering
stint_cmp a b = ordering_then (nat_cmp a.worker b.worker) (nat_cmp a.start b.start)

stint_total : IsTotalOrder stint_cmp
stint_total = then_total {R = on (λ (s : Stint). s.worker) nat_cmp} {S = on (λ (s : Stint). s.start) nat_cmp}
    (on_total (λ (s : Stint). s.worker) nat_cmp_total) (on_total (λ (s : Stint). s.start) nat_cmp_total)

-- what doesn't compare as less is on a greater worker, or on the same and starts no sooner
comes_first : (a b : Stint) → is_lt (stint_cmp b a) ≡ false → (a.worker < b.worker) ⊎ ((a.worker ≡ b.worker) × (a.start ≤ b.start))
comes_first a b h = ⊎_elim
    (λ (e : a.worker ≡ b.worker). ⊎_elim
    (λ (same : a.start ≡ b.start). inr (e, omega (arith, same)))
    (⊎_elim (λ (l : a.start < b.start). inr (e, omega (arith, l)))
    (λ (g : b.start < a.start). absurd (true≢false (rw (sym (nat_cmp_is b.worker a.worker Equal (sym e)), sym (nat_cmp_is b.start a.start Less g)) at h))))
    (cases_order a.start b.start))
    (⊎_elim (λ (l : a.worker < b.worker). inl l)
    (λ (g : b.worker < a.worker). absurd (true≢false (rw (sym (nat_cmp_is b.worker a.worker Less g)) at h))))
    (cases_order a.worker b.worker)

module _ (starts ends workers : List ℕ) where
  abbrev row_of : Stint → ℕ
  row_of s = s.row

  stints_apart : (xs : List Stint) → AreStints starts ends workers xs → HaveOne row_of xs
  stints_apart xs are i j a b l ia ib e = omega (arith, l, e, (are.at i a ia).row_is, (are.at j b ib).row_is)

  -- one more stint
  pub stints_more : (xs : List Stint) (s : Stint) (n : ℕ) → length xs ≡ n
      → ((k : ℕ) (t : Stint) → slice_get xs k ≡ Some t → IsStint starts ends workers k t) → IsStint starts ends workers n s
      → (k : ℕ) (t : Stint) → slice_get (xs ++ s ∷ []) k ≡ Some t → IsStint starts ends workers k t
  stints_more xs s n whole before here k t is = elim (pushed_cases xs s k t is) [
    | inl old ↦ before k t old.1
    | inr new ↦ subst (λ (x : ℕ). IsStint starts ends workers x t) (sym whole ∙ sym new.0) (subst (IsStint starts ends workers n) new.1 here)
  ]

  -- stints that a sort has moved, and that it leaves in their order
  module _ (xs ys : List Stint) (are : AreStints starts ends workers xs) (moved : IsPermutation xs ys)
      (up : IsSortedBy (λ a b. is_lt (stint_cmp a b)) ys) where
    -- each of those that were moved stood at its row
    moved_is : (k : ℕ) (s : Stint) → slice_get ys k ≡ Some s → (s.row < length starts) × IsStint starts ends workers s.row s
    moved_is k s is =
        let old = place_from_contains xs s (Contains-permutation ys xs s (IsPermutation-sym xs ys moved) (contains_from_place ys k s is)) in
        let own = are.at old.0 s old.1 in (
          omega (arith, own.row_is, slice_get_within xs old.0 s old.1, are.whole),
          subst (λ (r : ℕ). IsStint starts ends workers r s) (sym own.row_is) own,
        )

    has_all : (row : ℕ) → row < length starts → (k : ℕ) × (s : Stint) × (slice_get ys k ≡ Some s) × (s.row ≡ row)
    has_all row h =
        let s : Stint = get_or xs row (record { worker = 0; start = 0; end = 0; row = 0 }) in
        let is : slice_get xs row ≡ Some s = slice_get-get_or xs row (record { worker = 0; start = 0; end = 0; row = 0 }) (omega (arith, h, are.whole)) in
        let new = place_from_contains ys s (Contains-permutation xs ys s moved (contains_from_place xs row s is)) in
        (new.0, s, new.1, (are.at row s is).row_is)

    pub stints_sorted : AreInLine starts ends workers ys
    stints_sorted = record {
      each = moved_is;
      all = has_all;
      one = one_moved row_of xs ys moved (stints_apart xs are);
      rise = λ i j a b l ia ib. comes_first a b
          (rw (get_or_from_slice_get ys i a a ia, get_or_from_slice_get ys j b a ib) at
          (sorted_far (λ x y. is_lt (stint_cmp x y)) (ranks_by stint_total (λ (s : Stint). s)) ys up i j a (omega arith) (slice_get_within ys j b ib)));
    }
