-- The places of a timetable: they are made up to a row, and then that row is noted.
use Rattle.std.proofs.Common.{◌≡◌, ℕ, ◌+◌, ◌<◌, ◌≤◌, max, List, [], ◌∷◌, ◌++◌, length, ◌∙◌, ap, arith, length-append}
use Rattle.std.specs.Prelude.{slice_get, slice_set}
use Rattle.std.proofs.lemmas.List.{length-set}
use Rattle.boc_program.proofs.ChangedItems.{front_item, set_other, set_same}
use Rattle.boc_timed.specs.declared.timetable.Timetable.{Timetable}
use Rattle.boc_timed.specs.Timetables.{IsEven, IsNoted}

-- places were made, up to this row; what is noted stays
pub record HasPlaces (old : Timetable) (row : ℕ) (new : Timetable) : Type 0 where
  pub p_same : new.p ≡ old.p
  pub more : length old.starts.items ≤ length new.starts.items
  pub few : length new.starts.items ≤ max (length old.starts.items) (row + 1)
  pub starts : (other : ℕ) → other < length old.starts.items → slice_get new.starts.items other ≡ slice_get old.starts.items other
  pub workers : (other : ℕ) → other < length old.starts.items → slice_get new.workers.items other ≡ slice_get old.workers.items other

module _ (old : Timetable) (row : ℕ) (new : Timetable) (places : HasPlaces old row new) (even : IsEven new) (later : Timetable) (p_same : later.p ≡ new.p) where
  -- a place more
  pub place_more : length new.starts.items ≤ row → later.starts.items ≡ new.starts.items ++ 0 ∷ [] → later.workers.items ≡ new.workers.items ++ 0 ∷ []
      → HasPlaces old row later
  place_more low starts workers =
      let long : length later.starts.items ≡ length new.starts.items + 1 =
      ap (λ (xs : List ℕ). length xs) starts ∙ length-append new.starts.items (0 ∷ []) in
      record {
        p_same = p_same ∙ places.p_same;
        more = omega (arith, places.more, long);
        few = omega (arith, low, long);
        starts = λ other below.
            ap (λ (xs : List ℕ). slice_get xs other) starts ∙ front_item new.starts.items 0 other (omega (arith, below, places.more))
            ∙ places.starts other below;
        workers = λ other below.
            ap (λ (xs : List ℕ). slice_get xs other) workers ∙ front_item new.workers.items 0 other (omega (arith, below, places.more, even.even))
            ∙ places.workers other below;
      }

  -- the row is noted at its place
  pub placed : (time worker : ℕ) → row < length new.starts.items → later.starts.items ≡ slice_set new.starts.items row time
      → later.workers.items ≡ slice_set new.workers.items row worker → IsNoted old row time worker later
  placed time worker there starts workers =
      let long : length later.starts.items ≡ length new.starts.items = ap (λ (xs : List ℕ). length xs) starts ∙ length-set new.starts.items row time in
      record {
        p_same = p_same ∙ places.p_same;
        many = omega (arith, long, there, places.more, places.few);
        start = ap (λ (xs : List ℕ). slice_get xs row) starts ∙ set_same new.starts.items row time there;
        on = ap (λ (xs : List ℕ). slice_get xs row) workers ∙ set_same new.workers.items row worker (omega (arith, there, even.even));
        starts = λ other differ below.
            ap (λ (xs : List ℕ). slice_get xs other) starts ∙ set_other new.starts.items row other time differ ∙ places.starts other below;
        workers = λ other differ below.
            ap (λ (xs : List ℕ). slice_get xs other) workers ∙ set_other new.workers.items row other worker differ ∙ places.workers other below;
      }
