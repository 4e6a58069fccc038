-- Rows of which some are chosen: their places among these, and what is noted of them.
use Rattle.std.proofs.Common.{◌≡◌, ℕ, zero, suc, ◌+◌, ◌-◌, ◌<◌, ◌≤◌, List, [], ◌∷◌, length, length-append, Option, Some, None, inl, inr}
use Rattle.std.proofs.Common.{refl, ap, sym, ◌∙◌, subst, arith}
use Rattle.std.specs.Prelude.{slice_index}
use Rattle.std.specs.List.{Contains}
use Rattle.std.proofs.lemmas.Bool.{cases_lt, cases_eq}
use Rattle.std.proofs.lemmas.List.{get_or_push, get_or_append_left, length_push}
use Rattle.boc_sweep.specs.declared.windows.Stretch.{Stretch}
use Rattle.boc_sweep.specs.declared.chosen.Chosen.{Chosen}
use Rattle.boc_sweep.specs.Chosen.{AreChosen, AreCounted, IsChoice, IsChosen, IsNoted, IsPut, listed, placed}

-- the count of chosen rows never falls
module _ (n : ℕ) (chosen : Chosen) (counts : AreCounted n chosen) where
  rising : (a d : ℕ) → a + d ≤ n → slice_index chosen.before.items a ≤ slice_index chosen.before.items (a + d)
  rising a zero h = let same : a + zero ≡ a = omega arith in rw same (omega arith)
  rising a (suc d) h =
      let same : a + suc d ≡ (a + d) + 1 = omega arith in
      rw same (omega (arith, rising a d (omega (arith, h)), counts.rises (a + d) (omega (arith, h))))

  pub monotone : (a b : ℕ) → a ≤ b → b ≤ n → slice_index chosen.before.items a ≤ slice_index chosen.before.items b
  monotone a b le h =
      let same : a + (b - a) ≡ b = omega (arith, le) in
      subst (λ (x : ℕ). slice_index chosen.before.items a ≤ slice_index chosen.before.items x) same (rising a (b - a) (omega (arith, le, h)))

  -- a chosen row has a place among those that are chosen
  pub has_place : (row : ℕ) → row < n → IsChosen chosen.before.items row → slice_index chosen.before.items row < length chosen.bases.items
  has_place row h c = omega (arith, c, monotone (row + 1) n (omega (arith, h)) (omega arith), counts.counted)

  pub placed_inside : (s : Stretch) → s.high ≤ n → (placed chosen.before.items s).high ≤ length chosen.bases.items
  placed_inside s h = omega (arith, monotone s.high n h (omega arith), counts.counted)

  -- a chosen row whose place a stretch holds is one of the rows that the stretch holds
  module _ (low high row : ℕ) (c : IsChosen chosen.before.items row) where
    pub not_before : low ≤ n → slice_index chosen.before.items low ≤ slice_index chosen.before.items row → low ≤ row
    not_before l h = elim (cases_lt row low) [
      | inl k ↦ absurd (omega (arith, h, c, monotone (row + 1) low (omega (arith, k)) l))
      | inr g ↦ omega (arith, g)
    ]

    pub not_behind : row ≤ n → slice_index chosen.before.items row < slice_index chosen.before.items high → row < high
    not_behind l h = elim (cases_lt row high) [
      | inl k ↦ k
      | inr g ↦ absurd (omega (arith, h, monotone high row (omega (arith, g)) l))
    ]

-- what is noted stays so, where stretches are added
pub noted_still : (chosen : Chosen) (old new : List Stretch) → ((r : Stretch) → Contains old r → Contains new r) → (s : Stretch) → IsNoted chosen old s
    → IsNoted chosen new s
noted_still chosen old new grows s (inl low) = inl low
noted_still chosen old new grows s (inr (inl none)) = inr (inl none)
noted_still chosen old new grows s (inr (inr there)) = inr (inr (grows _ there))

-- no row is chosen yet
pub chosen_none : (Left : ℕ → Type 0) (IsBase : ℕ → ℕ → Type 0) (chosen : Chosen) → chosen.before.items ≡ 0 ∷ [] → chosen.bases.items ≡ []
    → AreChosen Left IsBase 0 chosen
chosen_none Left IsBase chosen before bases = record {
  counts = record {
    whole = ap length before;
    counted = ap (λ (xs : List ℕ). slice_index xs 0) before ∙ sym (ap length bases);
    few = omega (arith, ap length bases);
    rises = λ row h. absurd (omega (arith, h));
  };
  left = λ row h. absurd (omega (arith, h));
  at = λ row h. absurd (omega (arith, h));
  low = λ place h. absurd (omega (arith, h, ap length bases));
}

-- one row more
module _ (Left : ℕ → Type 0) (IsBase : ℕ → ℕ → Type 0) (n : ℕ) (old : Chosen) (base : Option ℕ) (new : Chosen) (c : AreChosen Left IsBase n old)
    (p : IsPut old base new) where
  same_before : (row : ℕ) → row < n + 1 → slice_index new.before.items row ≡ slice_index old.before.items row
  same_before row h = rw p.before (get_or_append_left old.before.items (length new.bases.items ∷ []) 0 row (omega (arith, h, c.counts.whole)))

  next_before : slice_index new.before.items (n + 1) ≡ length new.bases.items
  next_before = rw p.before (get_or_push old.before.items (length new.bases.items) 0 (n + 1) c.counts.whole)

  grown : length new.bases.items ≡ length old.bases.items + length (listed base)
  grown = rw p.bases (length-append old.bases.items (listed base))

  same_base : (place : ℕ) → place < length old.bases.items → slice_index new.bases.items place ≡ slice_index old.bases.items place
  same_base place h = rw p.bases (get_or_append_left old.bases.items (listed base) 0 place h)

  counts_more : length (listed base) ≤ 1 → AreCounted (n + 1) new
  counts_more one = record {
    whole = rw p.before (omega (arith, length_push old.before.items (length new.bases.items), c.counts.whole));
    counted = next_before;
    few = omega (arith, grown, one, c.counts.few);
    rises = λ row h. elim (cases_eq row n) [
      | inl e ↦ rw e (omega (arith, same_before n (omega arith), next_before, c.counts.counted, grown))
      | inr ne ↦ omega (arith, same_before row h, same_before (row + 1) (omega (arith, h, ne)), c.counts.rises row (omega (arith, h, ne)))
    ];
  }

  -- of the rows before it nothing changes
  left_before : (row : ℕ) → row < n → slice_index new.before.items (row + 1) ≤ slice_index new.before.items row → Left row
  left_before row h none = c.left row h (omega (arith, none, same_before row (omega (arith, h)), same_before (row + 1) (omega (arith, h))))

  at_before : (row : ℕ) → row < n → IsChosen new.before.items row → IsBase row (slice_index new.bases.items (slice_index new.before.items row))
  at_before row h is =
      let was : IsChosen old.before.items row = omega (arith, is, same_before row (omega (arith, h)), same_before (row + 1) (omega (arith, h))) in
      rw (same_before row (omega (arith, h)), same_base (slice_index old.before.items row) (has_place n old c.counts row h was)) (c.at row h was)

  low_before : (place : ℕ) → place < length old.bases.items → new.floor ≤ slice_index new.bases.items place
  low_before place h = omega (arith, same_base place h, c.low place h, p.falls)

pub chosen_more : (Left : ℕ → Type 0) (IsBase : ℕ → ℕ → Type 0) (n : ℕ) (old : Chosen) (base : Option ℕ) (new : Chosen) → AreChosen Left IsBase n old
    → IsPut old base new → IsChoice (Left n) (IsBase n) base → AreChosen Left IsBase (n + 1) new
chosen_more Left IsBase n old None new c p left = record {
  counts = counts_more Left IsBase n old None new c p (omega arith);
  left = λ row h none. elim (cases_eq row n) [
    | inl e ↦ rw e left
    | inr ne ↦ left_before Left IsBase n old None new c p row (omega (arith, h, ne)) none
  ];
  at = λ row h is. elim (cases_eq row n) [
    | inl e ↦ absurd (omega (
      arith,
      subst (λ (x : ℕ). IsChosen new.before.items x) e is,
      next_before Left IsBase n old None new c p,
      same_before Left IsBase n old None new c p n (omega arith),
      c.counts.counted,
      grown Left IsBase n old None new c p,
    ))
    | inr ne ↦ at_before Left IsBase n old None new c p row (omega (arith, h, ne)) is
  ];
  low = λ place h. low_before Left IsBase n old None new c p place (omega (arith, h, grown Left IsBase n old None new c p));
}
chosen_more Left IsBase n old (Some base) new c p is_base = record {
  counts = counts_more Left IsBase n old (Some base) new c p (omega arith);
  left = λ row h none. elim (cases_eq row n) [
    | inl e ↦ absurd (omega (
      arith,
      subst (λ (x : ℕ). slice_index new.before.items (x + 1) ≤ slice_index new.before.items x) e none,
      next_before Left IsBase n old (Some base) new c p,
      same_before Left IsBase n old (Some base) new c p n (omega arith),
      c.counts.counted,
      grown Left IsBase n old (Some base) new c p,
    ))
    | inr ne ↦ left_before Left IsBase n old (Some base) new c p row (omega (arith, h, ne)) none
  ];
  at = λ row h is. elim (cases_eq row n) [
    | inl e ↦ rw (e, same_before Left IsBase n old (Some base) new c p n (omega arith), c.counts.counted, last) is_base
    | inr ne ↦ at_before Left IsBase n old (Some base) new c p row (omega (arith, h, ne)) is
  ];
  low = λ place h. elim (cases_lt place (length old.bases.items)) [
    | inl l ↦ low_before Left IsBase n old (Some base) new c p place l
    | inr g ↦ (
        let same : place ≡ length old.bases.items = omega (arith, h, g, grown Left IsBase n old (Some base) new c p) in
        rw same (omega (arith, last, p.low)))
  ];
}
  where
    last : slice_index new.bases.items (length old.bases.items) ≡ base
    last = rw p.bases (get_or_push old.bases.items base 0 (length old.bases.items) refl)
