-- The rows that stay are those of the front arranged.
use Rattle.std.proofs.Common.{◌≡◌, ◌≢◌, ◌⊎◌, ◌↔◌, ℕ, zero, suc, ◌+◌, ◌<◌, ◌≤◌, inl, inr, Bool, false, List, [], ◌∷◌, ◌++◌, length, map, take, refl, sym, ◌∙◌, ap, subst, arith, length-append}
use Rattle.std.specs.Prelude.{slice_get, slice_index_or, Option, Some, None, IsPermutation}
use Rattle.std.specs.List.{Contains}
use Rattle.std.proofs.lemmas.Bool.{cases_lt}
use Rattle.std.proofs.lemmas.List.{length-map}
use Rattle.std.proofs.lemmas.List.Sorted.{IsPermutation-sym, Contains-permutation}
use Rattle.boc_program.proofs.ChangedItems.{place_below, item_at, front_item, last_item}
use Rattle.boc_program.proofs.RisingNumbers.{picked_from, is_picked}
use Rattle.boc_runs.specs.Serial.{Behaviour}
use Rattle.boc_fronts.specs.Fronts as fronts
use Rattle.boc_fronts.specs.Steps.{IsAt, IsArranged}
use Rattle.boc_front_rows.specs.declared.row.Front.{Front}
use Rattle.boc_front_rows.specs.declared.row.LiveRow.{LiveRow}
use Rattle.boc_front_rows.specs.Lists.{list_at}
use Rattle.boc_front_rows.specs.Orders.{is_nil, done_of, kept_from, places_of, moved, IsMoved, AreMoved}
use Rattle.boc_front_rows.specs.Rows.{Plain, plain, plains, row_at, AreIn}
use Rattle.boc_front_rows.specs.Seen.{shown, front_of}
use Rattle.boc_front_rows.proofs.Mapped.{at_mapped, mapped_at, read_some, some_read}
use Rattle.boc_front_rows.proofs.Ordering as ordering

module _ (lists : List (List Behaviour)) (front after : Front) (kept : List ℕ) (same : after.values.items ≡ front.values.items)
    (order : IsPermutation (kept_from 0 (done_of lists (plains front.live.items))) kept)
    (now : AreMoved (places_of (length (plains front.live.items)) kept) kept (plains front.live.items) (plains after.live.items)) where
  abbrev rows : List Plain
  rows = plains front.live.items

  abbrev rows_now : List Plain
  rows_now = plains after.live.items

  abbrev ds : List Bool
  ds = done_of lists rows

  abbrev places : List (Option ℕ)
  places = places_of (length rows) kept

  abbrev row : Plain → fronts.LiveRow
  row = shown lists

  there : (k i : ℕ) → slice_get kept k ≡ Some i → i < length rows
  there k i is =
      omega (arith, place_below ds i false (ordering.moved_is ds kept order k i is), length-map rows (λ r. is_nil (list_at lists r.wishes)))

  forth : (k i : ℕ) → slice_get kept k ≡ Some i → slice_get places i ≡ Some (Some k)
  forth k i is = ordering.forth (length rows) kept (ordering.moved_once ds kept order) k i is (there k i is)

  back : (i k : ℕ) → slice_get places i ≡ Some (Some k) → slice_get kept k ≡ Some i
  back i k is = ordering.back (length rows) kept i k is

  -- a row that stays, beside what it was
  record Stays (k i : ℕ) (m l : fronts.LiveRow) : Type 0 where
    old : Plain
    old_at : slice_get rows i ≡ Some old
    old_is : row old ≡ m
    new : Plain
    new_is : row new ≡ l
    moves : IsMoved places old new

  stays : (k i : ℕ) (m l : fronts.LiveRow) → slice_get kept k ≡ Some i → slice_get (front_of lists front).live i ≡ Some m
      → slice_get (front_of lists after).live k ≡ Some l → Stays k i m l
  stays k i m l is was here =
      let x = mapped_at row rows i m was in
      let y = mapped_at row rows_now k l here in
      record { old = x.0; old_at = x.1; old_is = x.2; new = y.0; new_is = y.2; moves = now.each k i x.0 y.0 is x.1 y.1 }

  -- places of rows before one that stays are new places of rows that stay
  before_is : (before after : List ℕ) (j : ℕ) → IsPermutation (moved places before) after → (Contains after j ↔ IsAt kept before j)
  before_is before after j perm = (
    λ h.
        let x = picked_from (λ place. slice_index_or places place None) before j
        (Contains-permutation after (moved places before) j (IsPermutation-sym (moved places before) after perm) h) in
        (x.0, back x.0 j (read_some places x.0 j x.2), x.1),
    λ h. Contains-permutation (moved places before) after j perm
        (is_picked (λ place. slice_index_or places place None) before h.0 j h.2 (some_read places h.0 j (forth j h.0 h.1))),
  )

  -- a row that is kept has a wish
  wishing : (k i : ℕ) (r : Plain) → slice_get kept k ≡ Some i → slice_get rows i ≡ Some r → list_at lists r.wishes ≢ []
  wishing k i r is was =
      let e : Some (is_nil (list_at lists r.wishes)) ≡ Some false =
      sym (at_mapped (λ x. is_nil (list_at lists x.wishes)) rows i r was) ∙ ordering.moved_is ds kept order k i is in
      ordering.nil_not (list_at lists r.wishes) (cc)

  pub arranged : IsArranged (front_of lists front) kept (front_of lists after)
  arranged = record {
    values_are = same;
    many = length-map rows_now row ∙ now.many;
    there = λ k i is. omega (arith, there k i is, length-map rows row);
    once = ordering.moved_once ds kept order;
    kept = λ i m is some.
        let x = mapped_at row rows i m is in
        ordering.moved_has ds kept order i (at_mapped (λ z. is_nil (list_at lists z.wishes)) rows i x.0 x.1
        ∙ ap (λ d. Some d) (ordering.nil_if (list_at lists x.0.wishes)
        (λ e. some (ap (λ (z : fronts.LiveRow). z.wishes) (sym x.2) ∙ e))));
    some = λ k l is e.
        let y = mapped_at row rows_now k l is in
        let i = item_at kept k (omega (arith, now.many, place_below rows_now k y.0 y.1)) in
        let x = item_at rows i.0 (there k i.0 i.1) in
        let moves = now.each k i.0 x.0 y.0 i.1 x.1 y.1 in
        wishing k i.0 x.0 i.1 x.1 (ap (list_at lists) (sym moves.wishes) ∙ ap (λ (z : fronts.LiveRow). z.wishes) y.2 ∙ e);
    wishes = λ k i m l is old new.
        let s = stays k i m l is old new in
        sym (ap (λ (z : fronts.LiveRow). z.wishes) s.new_is) ∙ ap (list_at lists) s.moves.wishes ∙ ap (λ (z : fronts.LiveRow). z.wishes) s.old_is;
    before = λ k i j m l is old new.
        let s = stays k i m l is old new in
        let both = before_is s.old.before s.new.before j s.moves.before in (
          λ h. subst (λ (z : fronts.LiveRow). IsAt kept z.before j) s.old_is
              (both.0 (subst (λ (z : fronts.LiveRow). Contains z.before j) (sym s.new_is) h)),
          λ h. subst (λ (z : fronts.LiveRow). Contains z.before j) s.new_is
              (both.1 (subst (λ (z : fronts.LiveRow). IsAt kept z.before j) (sym s.old_is) h)),
        );
    claims = λ k i m l is old new.
        let s = stays k i m l is old new in
        sym (ap (λ (z : fronts.LiveRow). z.claims) s.new_is) ∙ s.moves.claims ∙ ap (λ (z : fronts.LiveRow). z.claims) s.old_is;
  }

  -- the lists of the rows that stay are there
  pub still_there : AreIn lists rows → AreIn lists rows_now
  still_there all k r is =
      let i = item_at kept k (omega (arith, now.many, place_below rows_now k r is)) in
      let x = item_at rows i.0 (there k i.0 i.1) in
      omega (arith, all i.0 x.0 x.1, (now.each k i.0 x.0 r i.1 x.1 is).wishes)

  pub fewer : length rows_now ≤ length rows
  fewer = omega (arith, now.many, ordering.kept_many ds kept order, length-map rows (λ r. is_nil (list_at lists r.wishes)))

-- there are as many of them as rows
pub many_done : (lists : List (List Behaviour)) (live : List LiveRow) (done : List Bool) → done ≡ done_of lists (plains live) → length done ≡ length live
many_done lists live done e =
    ap (length {A = Bool}) e ∙ length-map (plains live) (λ r. is_nil (list_at lists r.wishes)) ∙ length-map live plain

-- ---- the rows that stay, one by one

pub none_moved : (places : List (Option ℕ)) (rows : List Plain) → AreMoved places [] rows []
none_moved places rows = record {
  many = refl;
  each = λ k i r s is was now. absurd (let f : None ≡ Some i = is in cc);
}

take_at : (xs : List ℕ) (n k i : ℕ) → slice_get (take n xs) k ≡ Some i → slice_get xs k ≡ Some i
take_at xs zero k i e = absurd (let f : None ≡ Some i = e in cc)
take_at [] (suc n) k i e = absurd (let f : None ≡ Some i = e in cc)
take_at (x ∷ xs) (suc n) zero i e = e
take_at (x ∷ xs) (suc n) (suc k) i e = take_at xs n k i e

take_many : (xs : List ℕ) (n : ℕ) → n ≤ length xs → length (take n xs) ≡ n
take_many xs zero few = refl
take_many [] (suc n) few = absurd (omega (arith, few))
take_many (x ∷ xs) (suc n) few = ap suc (take_many xs n (omega (arith, few)))

-- one row more
pub moved_more : (places : List (Option ℕ)) (kept : List ℕ) (n i : ℕ) (rows new : List Plain) (r s : Plain) → slice_get kept n ≡ Some i
    → slice_get rows i ≡ Some r → IsMoved places r s → AreMoved places (take n kept) rows new → AreMoved places (take (n + 1) kept) rows (new ++ (s ∷ []))
moved_more places kept n i rows new r s is was moves so = record {
  many = omega (arith, so.many, length-append new (s ∷ []), take_many kept n (omega (arith, low)), take_many kept (n + 1) (omega (arith, low)));
  each = λ k j x y at old now.
      elim (cases_lt k n) [
        | inl early ↦ so.each k j x y (early_at k j early (take_at kept (n + 1) k j at)) old
            (sym (front_item new s k (omega (arith, early, many_before))) ∙ now)
        | inr late ↦
            let e : k ≡ n = omega (arith, late, place_below (take (n + 1) kept) k j at, take_many kept (n + 1) (omega (arith, low))) in
            let f : Some j ≡ Some i = sym (take_at kept (n + 1) k j at) ∙ ap (slice_get kept) e ∙ is in
            let same : j ≡ i = cc in
            let g : Some x ≡ Some r = sym old ∙ ap (slice_get rows) same ∙ was in
            let x_is : r ≡ x = cc in
            let here : k ≡ length new = omega (arith, e, many_before) in
            let h : Some s ≡ Some y = sym (last_item new s) ∙ ap (slice_get (new ++ (s ∷ []))) (sym here) ∙ now in
            let y_is : s ≡ y = cc in
            subst (λ (z : Plain). IsMoved places x z) y_is (subst (λ (z : Plain). IsMoved places z s) x_is moves)
      ];
}
  where
    low : n < length kept
    low = place_below kept n i is

    many_before : length new ≡ n
    many_before = omega (arith, so.many, take_many kept n (omega (arith, low)))

    early_take : (xs : List ℕ) (m k j : ℕ) → k < m → slice_get xs k ≡ Some j → slice_get (take m xs) k ≡ Some j
    early_take [] m k j h e = absurd (let f : None ≡ Some j = e in cc)
    early_take (x ∷ xs) zero k j h e = absurd (omega (arith, h))
    early_take (x ∷ xs) (suc m) zero j h e = e
    early_take (x ∷ xs) (suc m) (suc k) j h e = early_take xs m k j (omega (arith, h)) e

    early_at : (k j : ℕ) → k < n → slice_get kept k ≡ Some j → slice_get (take n kept) k ≡ Some j
    early_at k j h e = early_take kept n k j h e

-- the rows that stay, as the calls made them
pub made : (live same new : List LiveRow) (n : ℕ) (kept ks ls : List ℕ) (ps : List (Option ℕ)) → same ≡ live → n ≡ length live → ls ≡ kept
    → ps ≡ places_of n ls → ks ≡ kept → AreMoved ps ks (plains same) (plains new)
    → AreMoved (places_of (length (plains live)) kept) kept (plains live) (plains new)
made live same new n kept ks ls ps s n_is l p k e =
    let many : n ≡ length (plains live) = n_is ∙ sym (length-map live plain) in
    let ps_is : ps ≡ places_of (length (plains live)) kept = p ∙ ap (λ (m : ℕ). places_of m ls) many ∙ ap (places_of (length (plains live))) l in
    subst (λ (z : List (Option ℕ)). AreMoved z kept (plains live) (plains new)) ps_is
    (subst (λ (z : List ℕ). AreMoved ps z (plains live) (plains new)) k
    (subst (λ (z : List LiveRow). AreMoved ps ks (plains z) (plains new)) s e))

pub plains_more : (rows : List LiveRow) (r : LiveRow) → plains (rows ++ (r ∷ [])) ≡ plains rows ++ (plain r ∷ [])
plains_more [] r = refl
plains_more (x ∷ xs) r = ap (λ (ys : List Plain). plain x ∷ ys) (plains_more xs r)

pub at_index : (xs : List ℕ) (i d : ℕ) → i < length xs → slice_get xs i ≡ Some (slice_index_or xs i d)
at_index [] i d low = absurd (omega (arith, low))
at_index (x ∷ xs) zero d low = refl
at_index (x ∷ xs) (suc i) d low = at_index xs i d (omega (arith, low))

pub take_whole : (xs : List ℕ) (n : ℕ) → length xs ≤ n → take n xs ≡ xs
take_whole [] zero few = refl
take_whole [] (suc n) few = refl
take_whole (x ∷ xs) zero few = absurd (omega (arith, few))
take_whole (x ∷ xs) (suc n) few = ap (λ (ys : List ℕ). x ∷ ys) (take_whole xs n (omega (arith, few)))

-- the order of the rows that stay, as the calls made it
pub order_as : (lists : List (List Behaviour)) (live same : List LiveRow) (done told : List Bool) (kept : List ℕ)
    → done ≡ done_of lists (plains same) → same ≡ live → told ≡ done → IsPermutation (kept_from 0 told) kept
    → IsPermutation (kept_from 0 (done_of lists (plains live))) kept
order_as lists live same done told kept d s t e =
    subst (λ (xs : List Bool). IsPermutation (kept_from 0 xs) kept) (t ∙ d ∙ ap (λ (ls : List LiveRow). done_of lists (plains ls)) s) e
