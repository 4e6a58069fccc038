-- There is one list of rows with typical ticks, and rows of which each is a def of its own stay.
use Rattle.std.proofs.Common.{◌≡◌, ◌⊎◌, inl, inr, ℕ, zero, suc, ◌+◌, ◌<◌, ◌≤◌, max, List, [], ◌∷◌, length, Option, Some, None, refl, ap, sym, ◌∙◌, subst, arith}
use Rattle.std.specs.Prelude.{slice_get, slice_index}
use Rattle.std.specs.Option.{option_map_or}
use Rattle.std.proofs.lemmas.Bool.{cases_lt}
use Rattle.std.proofs.lemmas.Option.{slice_get_past}
use Rattle.boc_runs.specs.declared.rows.Row.{Row}
use Rattle.boc_runs.specs.Rows.{IsRows, IsLast, parent_of, offset_of, ticks_of}
use Rattle.boc_runs.specs.Changes.{IsSameBut, part_of}
use Rattle.boc_runs.proofs.Editing.{last_le_ticks}
use Rattle.boc_runs.proofs.Scaling.{same_parents, last_exists, last_of_same, is_zero, up_to}
use Rattle.boc_typical.specs.Medians.{AreAllApart, IsTypicalOf, ticks_in}
use Rattle.boc_typical.specs.Typical.{IsTypical}
use Rattle.boc_typical.proofs.Middle.{middle_is, middle_of, median_above, median_below}
use Rattle.boc_typical.proofs.Spreading.{share_same}
use Rattle.boc_typical.proofs.TakenCounts.{ticks_all, ticks_some}

-- two rows that are like a third one, and have the same offsets and ticks
between : (p q r : Option Row) → IsSameBut p q → IsSameBut p r → option_map_or (λ (y : Row). y.offset) q 0 ≡ option_map_or (λ (y : Row). y.offset) r 0
    → option_map_or (λ (y : Row). y.ticks) q 0 ≡ option_map_or (λ (y : Row). y.ticks) r 0 → q ≡ r
between None None None s t e f = refl
between None None (Some z) s t e f = absurd t
between None (Some y) r s t e f = absurd s
between (Some x) None r s t e f = absurd s
between (Some x) (Some y) None s t e f = absurd t
between (Some x) (Some y) (Some z) s t e f =
    ap Some (s ∙ ap (λ (k : ℕ). record x { offset = k; ticks = y.ticks }) e ∙ ap (λ (k : ℕ). record x { offset = z.offset; ticks = k }) f ∙ sym t)

not_both : (o : Option Row) (y : Row) → o ≡ None → o ≡ Some y → ⊥
not_both o y e f = let bad : ⊥ = cc in bad

lists_alike : (xs ys : List Row) → ((r : ℕ) → slice_get xs r ≡ slice_get ys r) → xs ≡ ys
lists_alike [] [] same = refl
lists_alike [] (y ∷ ys) same = absurd (not_both (slice_get [] 0) y refl (same 0))
lists_alike (x ∷ xs) [] same = absurd (not_both (slice_get [] 0) x refl (sym (same 0)))
lists_alike (x ∷ xs) (y ∷ ys) same =
    ap (λ (z : Row). z ∷ xs) (ap (λ (o : Option Row). option_map_or (λ (z : Row). z) o x) (same 0))
    ∙ ap (λ (l : List Row). y ∷ l) (lists_alike xs ys (λ r. same (suc r)))

greater : (o p e : ℕ) → p ≡ o → e ≤ o → o ≡ max p e
greater o p e is low = omega (arith, is, low)

past : (xs : List Row) (r : ℕ) → length xs ≤ r → (offset_of xs r ≡ 0) × (ticks_of xs r ≡ 0)
past xs r out = rw (slice_get_past xs r out) (refl, refl)

module _ (rows : List Row) (hr : IsRows rows) (defs : List ℕ) (whole : length defs ≡ length rows) where
  abbrev middle : ℕ → ℕ
  middle r = middle_of (ticks_in rows defs (slice_index defs r))

  middle_typical : (r : ℕ) → r < length rows → IsTypicalOf rows defs (slice_index defs r) (middle r)
  middle_typical r here = middle_is (ticks_in rows defs (slice_index defs r)) (ticks_some rows defs r whole here)

  module _ (after other : List Row) (s : IsTypical rows defs after) (t : IsTypical rows defs other) where
    parents_alike : (r : ℕ) → parent_of other r ≡ parent_of after r
    parents_alike r = same_parents rows other t.same r ∙ sym (same_parents rows after s.same r)

    child_alike : (n : ℕ) → ((b : ℕ) → b < n → offset_of other b ≡ offset_of after b) → 0 < n → n < length rows → offset_of other n ≡ offset_of after n
    child_alike n before some here =
        let elder = last_exists after n (parent_of rows n) in
        let typical = middle_typical (parent_of rows n) (omega (arith, hr.parent_before n some here, here)) in
        t.offsets n elder.0 (middle (parent_of rows n)) some here
        (last_of_same after other n (parent_of rows n) elder.0 (λ a below. parents_alike a) before elder.1) typical
        ∙ sym (s.offsets n elder.0 (middle (parent_of rows n)) some here elder.1 typical)

    offset_alike : (n : ℕ) → ((b : ℕ) → b < n → offset_of other b ≡ offset_of after b) → (n ≡ 0) ⊎ (0 < n) → (n < length rows) ⊎ (length rows ≤ n)
        → offset_of other n ≡ offset_of after n
    offset_alike n before (inl e) here = rw e (t.main_offset ∙ sym s.main_offset)
    offset_alike n before (inr some) (inl here) = child_alike n before some here
    offset_alike n before (inr some) (inr out) = (past other n (omega (arith, out, t.whole))).0 ∙ sym (past after n (omega (arith, out, s.whole))).0

    offsets_alike : (n b : ℕ) → b < n → offset_of other b ≡ offset_of after b
    offsets_alike zero b below = absurd (omega (arith, below))
    offsets_alike (suc n) b below = elim (up_to b n (omega (arith, below))) [
      | inl e ↦ rw e (offset_alike n (offsets_alike n) (is_zero n) (cases_lt n (length rows)))
      | inr less ↦ offsets_alike n b less
    ]

    ticks_alike : (r : ℕ) → ticks_of other r ≡ ticks_of after r
    ticks_alike r = elim (cases_lt r (length rows)) [
      | inl here ↦ (
          let last = last_exists after (length after) r in
          let same : length after ≡ length other = s.whole ∙ sym t.whole in
          let also = last_of_same after other (length after) r last.0 (λ a below. parents_alike a) (λ a below. offsets_alike (suc a) a (omega arith)) last.1 in
          t.ticks r last.0 (middle r) here (subst (λ (k : ℕ). IsLast other k r last.0) same also) (middle_typical r here)
          ∙ sym (s.ticks r last.0 (middle r) here last.1 (middle_typical r here)))
      | inr out ↦ (past other r (omega (arith, out, t.whole))).1 ∙ sym (past after r (omega (arith, out, s.whole))).1
    ]

    pub one_typical : after ≡ other
    one_typical = lists_alike after other (λ r. between (slice_get rows r) (slice_get after r) (slice_get other r) (s.same r) (t.same r)
        (sym (offsets_alike (suc r) r (omega arith))) (sym (ticks_alike r)))

  -- each row is a def of its own
  module _ (apart : AreAllApart defs) where
    same_ticks : (r s : ℕ) → r < length rows → s < length rows → slice_index defs s ≡ slice_index defs r → ticks_of rows s ≡ ticks_of rows r
    same_ticks r s here there e = ap (ticks_of rows) (apart s r (omega (arith, whole, there)) (omega (arith, whole, here)) e)

    -- then its typical ticks are its own
    own_typical : (r m : ℕ) → r < length rows → IsTypicalOf rows defs (slice_index defs r) m → m ≡ ticks_of rows r
    own_typical r m here is = omega (
      arith,
      median_above (ticks_in rows defs (slice_index defs r)) m (ticks_of rows r) is (ticks_all (λ n. ticks_of rows r ≤ n) rows defs (slice_index defs r)
          (λ s there e. let h : ticks_of rows r ≤ ticks_of rows s = omega (arith, same_ticks r s here there e) in h)),
      median_below (ticks_in rows defs (slice_index defs r)) m (ticks_of rows r) is (ticks_all (λ n. n ≤ ticks_of rows r) rows defs (slice_index defs r)
          (λ s there e. let h : ticks_of rows s ≤ ticks_of rows r = omega (arith, same_ticks r s here there e) in h)),
    )

    elder_low : (b elder : ℕ) → 0 < b → b < length rows → IsLast rows b (parent_of rows b) elder → elder + 1 ≤ offset_of rows b
    elder_low b elder some here l = elim l.reached [
      | inl e ↦ omega (arith, e, hr.offset_above b some here)
      | inr (a, above, below, child, is) ↦ omega (arith, is, hr.offsets_rise a b above below here child)
    ]

    same_offset : (b elder m : ℕ) → 0 < b → b < length rows → IsLast rows b (parent_of rows b) elder
        → IsTypicalOf rows defs (slice_index defs (parent_of rows b)) m
        → offset_of rows b ≡ max (part_of m (ticks_of rows (parent_of rows b)) (offset_of rows b)) (elder + 1)
    same_offset b elder m some here l is =
        let there : parent_of rows b < length rows = omega (arith, hr.parent_before b some here, here) in
        let t : ℕ = ticks_of rows (parent_of rows b) in
        let own : part_of m t (offset_of rows b) ≡ offset_of rows b =
        ap (λ (n : ℕ). part_of n t (offset_of rows b)) (own_typical (parent_of rows b) m there is)
        ∙ share_same t (offset_of rows b) (hr.ticks_low (parent_of rows b) there) in
        greater (offset_of rows b) (part_of m t (offset_of rows b)) (elder + 1) own (elder_low b elder some here l)

    rows_typical : IsTypical rows defs rows
    rows_typical = record {
      whole = refl;
      same = λ r. same_self (slice_get rows r);
      main_offset = refl;
      offsets = same_offset;
      ticks = λ r last m here l is. omega (arith, own_typical r m here is, last_le_ticks rows hr r last here l);
    }
      where
        same_self : (p : Option Row) → IsSameBut p p
        same_self None = tt
        same_self (Some x) = refl

    pub own_defs_stay : (after : List Row) → IsTypical rows defs after → after ≡ rows
    own_defs_stay after t = one_typical after rows t rows_typical
