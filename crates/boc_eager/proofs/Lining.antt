-- Several lines, of which one has changed.
use Rattle.std.proofs.Common.{◌≡◌, ◌≢◌, ℕ, ◌<◌, ◌≤◌, ◌⊎◌, List, [], length, get_or, set, sym, ap, ◌∙◌, inl, inr, length-set}
use Rattle.std.specs.Prelude.{Some, None, slice_get}
use Rattle.std.specs.List.{Contains}
use Rattle.std.specs.Option.{option_map_or}
use Rattle.std.proofs.lemmas.Bool.{cases_eq}
use Rattle.std.proofs.lemmas.Option.{get_or_from_slice_get}
use Rattle.boc_program.proofs.ChangedItems.{item_at, set_same, set_other}
use Rattle.boc_eager.specs.declared.line.Line.{Line}
use Rattle.boc_eager.specs.Lines.{Adds, IsLastLeft, IsLeft, StandsBehind, StandsInFront, behind_of, front_of}

-- what was read at a place is there
pub at_read : {A : Type 0} (xs : List A) (k : ℕ) (x : A) → k < length xs → x ≡ get_or xs k x → slice_get xs k ≡ Some x
at_read xs k x h e =
    let item = item_at xs k h in
    let same : x ≡ item.0 = e ∙ get_or_from_slice_get xs k item.0 x item.1 in
    item.1 ∙ ap (λ (y : _). Some y) (sym same)

-- a row came behind the front of line k
pub record ComesBehind (lines lines' : List Line) (k r : ℕ) : Type 0 where
  pub whole : length lines' ≡ length lines
  pub fronts : (j : ℕ) → front_of lines' j ≡ front_of lines j
  pub front : ℕ
  pub is_front : front_of lines k ≡ Some front
  pub lower : front < r
  pub joins : Adds (behind_of lines k) (behind_of lines' k) r
  pub others : (j : ℕ) → j ≢ k → behind_of lines' j ≡ behind_of lines j

-- a row came to the front of line k
pub record ComesInFront (lines lines' : List Line) (k r : ℕ) : Type 0 where
  pub whole : length lines' ≡ length lines
  pub front : front_of lines' k ≡ Some r
  pub none_lower : (f : ℕ) → front_of lines k ≡ Some f → r ≤ f
  pub fronts : (j : ℕ) → j ≢ k → front_of lines' j ≡ front_of lines j
  pub behind : (j : ℕ) → behind_of lines' j ≡ behind_of lines j

-- the row in front of line k went, and the next one came there
pub record GoesFrom (lines lines' : List Line) (k r next : ℕ) : Type 0 where
  pub whole : length lines' ≡ length lines
  pub was_front : front_of lines k ≡ Some r
  pub front : front_of lines' k ≡ Some next
  pub was_behind : Contains (behind_of lines k) next
  pub lowest : (x : ℕ) → Contains (behind_of lines' k) x → next < x
  pub stays : (x : ℕ) → Contains (behind_of lines k) x → (x ≡ next) ⊎ Contains (behind_of lines' k) x
  pub was : (x : ℕ) → Contains (behind_of lines' k) x → Contains (behind_of lines k) x
  pub fronts : (j : ℕ) → j ≢ k → front_of lines' j ≡ front_of lines j
  pub others : (j : ℕ) → j ≢ k → behind_of lines' j ≡ behind_of lines j

-- a row went from line k, and no other one came to the front
pub record GoesLast (lines lines' : List Line) (k r : ℕ) : Type 0 where
  pub whole : length lines' ≡ length lines
  pub front : ((front_of lines k ≡ Some r) × (front_of lines' k ≡ None)) ⊎ ((front_of lines k ≢ Some r) × (front_of lines' k ≡ front_of lines k))
  pub none_behind : front_of lines k ≡ Some r → (x : ℕ) → Contains (behind_of lines k) x → ⊥
  pub fronts : (j : ℕ) → j ≢ k → front_of lines' j ≡ front_of lines j
  pub behind : (j : ℕ) → behind_of lines' j ≡ behind_of lines j

module _ (lines : List Line) (k : ℕ) (old new : Line) (there : k < length lines) (read : old ≡ get_or lines k old) where
  abbrev lines' : List Line
  lines' = set lines k new

  old_at : slice_get lines k ≡ Some old
  old_at = at_read lines k old there read

  new_at : slice_get lines' k ≡ Some new
  new_at = set_same lines k new there

  old_front : front_of lines k ≡ old.front
  old_front = ap (λ o. option_map_or (λ (l : Line). l.front) o None) old_at

  new_front : front_of lines' k ≡ new.front
  new_front = ap (λ o. option_map_or (λ (l : Line). l.front) o None) new_at

  old_behind : behind_of lines k ≡ old.behind.keys
  old_behind = ap (λ o. option_map_or (λ (l : Line). l.behind.keys) o []) old_at

  new_behind : behind_of lines' k ≡ new.behind.keys
  new_behind = ap (λ o. option_map_or (λ (l : Line). l.behind.keys) o []) new_at

  other_front : (j : ℕ) → j ≢ k → front_of lines' j ≡ front_of lines j
  other_front j ne = ap (λ o. option_map_or (λ (l : Line). l.front) o None) (set_other lines k j new ne)

  other_behind : (j : ℕ) → j ≢ k → behind_of lines' j ≡ behind_of lines j
  other_behind j ne = ap (λ o. option_map_or (λ (l : Line). l.behind.keys) o []) (set_other lines k j new ne)

  all_behind : new.behind.keys ≡ old.behind.keys → (j : ℕ) → behind_of lines' j ≡ behind_of lines j
  all_behind same j = elim (cases_eq j k) [
    | inl e ↦ ap (behind_of lines') e ∙ (new_behind ∙ (same ∙ (sym old_behind ∙ ap (behind_of lines) (sym e))))
    | inr ne ↦ other_behind j ne
  ]

  pub comes_behind : (r : ℕ) → StandsBehind old new r → ComesBehind lines (set lines k new) k r
  comes_behind r s = record {
    whole = length-set lines k new;
    fronts = λ j. elim (cases_eq j k) [
      | inl e ↦ ap (front_of lines') e ∙ (new_front ∙ (s.stays ∙ (sym s.is_front ∙ (sym old_front ∙ ap (front_of lines) (sym e)))))
      | inr ne ↦ other_front j ne
    ];
    front = s.front;
    is_front = old_front ∙ s.is_front;
    lower = s.lower;
    joins = rw (old_behind, new_behind) s.joins;
    others = other_behind;
  }

  pub comes_in_front : (r : ℕ) → StandsInFront old new r → ComesInFront lines (set lines k new) k r
  comes_in_front r s = record {
    whole = length-set lines k new;
    front = new_front ∙ s.front;
    none_lower = λ f e. s.none_lower f (sym old_front ∙ e);
    fronts = other_front;
    behind = all_behind s.behind;
  }

  pub goes_from : (r next : ℕ) → IsLeft old new r next → GoesFrom lines (set lines k new) k r next
  goes_from r next s = record {
    whole = length-set lines k new;
    was_front = old_front ∙ s.was_front;
    front = new_front ∙ s.front;
    was_behind = rw old_behind s.was_behind;
    lowest = λ x m. s.lowest x (rw new_behind at m);
    stays = λ x m. rw new_behind (s.stays x (rw old_behind at m));
    was = λ x m. rw old_behind (s.was x (rw new_behind at m));
    fronts = other_front;
    others = other_behind;
  }

  pub goes_last : (r : ℕ) → IsLastLeft old new r → GoesLast lines (set lines k new) k r
  goes_last r s = record {
    whole = length-set lines k new;
    front = elim s.front [
      | inl (was, none) ↦ inl (old_front ∙ was, new_front ∙ none)
      | inr (other, same) ↦ inr (λ e. other (sym old_front ∙ e), new_front ∙ (same ∙ sym old_front))
    ];
    none_behind = λ e x m. s.none_behind (sym old_front ∙ e) x (rw old_behind at m);
    fronts = other_front;
    behind = all_behind s.behind;
  }
