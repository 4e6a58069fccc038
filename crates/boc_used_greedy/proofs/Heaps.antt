-- What is in a queue, as something goes in or out.
use Rattle.std.proofs.Common.{◌≡◌, ◌⊎◌, inl, inr, ℕ, ◌<◌, ◌≤◌, List, ◌∷◌, length, Option, Some, None, subst, sym, ap, ◌∙◌, arith}
use Rattle.std.specs.Prelude.{slice_get, slice_index_or, IfSome, IfNone}
use Rattle.std.specs.List.{Contains}
use Rattle.std.specs.List.Sorted.{IsPermutation}
use Rattle.std.specs.BinaryHeap.{IsHeap, PopsGreatest}
use Rattle.std.specs.declared.cmp.Reverse.{Reverse}
use Rattle.std.proofs.lemmas.List.Sorted.{Contains-permutation, IsPermutation-sym}
use Rattle.std.proofs.lemmas.Option.{slice_get_within, get_or_from_slice_get}
use Rattle.boc_greedy.specs.Queues.{Entry, entry_order, IsIn, IsOnTop}
use Rattle.boc_turns.proofs.Pacing.{contains_split, contains_rest, contains_here}
use Rattle.boc_used_greedy.specs.Plans.{IsReady, IsGathered, row_order}

module _ {X : Type 0} (xs rest : List X) (x : X) where
  pub out_was : IsPermutation xs (x ∷ rest) → (y : X) → Contains rest y → Contains xs y
  out_was p y h = Contains-permutation (x ∷ rest) xs y (IsPermutation-sym _ _ p) (contains_rest x rest y h)

  pub out_stays : IsPermutation xs (x ∷ rest) → (y : X) → Contains xs y → (x ≡ y) ⊎ Contains rest y
  out_stays p y h = contains_split x rest y (Contains-permutation xs (x ∷ rest) y p h)

  pub in_was : IsPermutation (x ∷ rest) xs → (y : X) → Contains xs y → (x ≡ y) ⊎ Contains rest y
  in_was p y h = contains_split x rest y (Contains-permutation xs (x ∷ rest) y (IsPermutation-sym _ _ p) h)

  pub in_stays : IsPermutation (x ∷ rest) xs → (y : X) → Contains rest y → Contains xs y
  in_stays p y h = Contains-permutation (x ∷ rest) xs y p (contains_rest x rest y h)

  pub in_here : IsPermutation (x ∷ rest) xs → Contains xs x
  in_here p = Contains-permutation (x ∷ rest) xs x p (contains_here x rest)

-- the top of the rows that wait was taken off
pub record Taken (old new : List Entry) (row : ℕ) : Type 0 where
  pub was : (due r : ℕ) → IsIn new due r → IsIn old due r
  pub stays : (due r : ℕ) → IsIn old due r → (r ≡ row) ⊎ IsIn new due r

pub taken : (old new : List Entry) (o : Option Entry) (len due row : ℕ) → IsOnTop old due row → len ≡ length old
    → IfSome o (λ x. x ≡ slice_index_or old 0 x) → IfSome o (λ x. IsPermutation old (x ∷ new)) → IfNone o (len ≡ 0) → Taken old new row
taken old new None len due row top is at p none = absurd (omega (arith, is, none, slice_get_within old 0 _ top))
taken old new (Some x) len due row top is at p none = record {
  was = λ at r i. out_was old new x p _ i;
  stays = λ at r i. elim (out_stays old new x p _ i) [
    | inl e ↦ inl (sym (ap (λ (y : Entry). y.0.1) e) ∙ same)
    | inr still ↦ inr still
  ];
}
  where
    same : x.0.1 ≡ row
    same = ap (λ (e : Entry). e.0.1) (at ∙ get_or_from_slice_get old 0 _ x top)

-- the top of the rows that are ready was taken off
pub record TakenReady (old new : List (Reverse ℕ)) (row : ℕ) : Type 0 where
  pub was : (r : ℕ) → IsReady new r → IsReady old r
  pub stays : (r : ℕ) → IsReady old r → (r ≡ row) ⊎ IsReady new r
  pub heap : IsHeap row_order old → IsHeap row_order new

pub on_ready : (old : List (Reverse ℕ)) (row : ℕ) → slice_get old 0 ≡ Some (record { 0 = row }) → IsReady old row
on_ready old row top = (0, slice_get_within old 0 _ top, get_or_from_slice_get old 0 _ _ top)

pub taken_ready : (old new : List (Reverse ℕ)) (o : Option (Reverse ℕ)) (len row : ℕ) → slice_get old 0 ≡ Some (record { 0 = row }) → len ≡ length old
    → IfSome o (λ x. x ≡ slice_index_or old 0 x) → IfSome o (λ x. IsPermutation old (x ∷ new)) → IfSome o (λ x. PopsGreatest row_order old x new)
    → IfNone o (len ≡ 0) → TakenReady old new row
taken_ready old new None len row top is at p heap none = absurd (omega (arith, is, none, slice_get_within old 0 _ top))
taken_ready old new (Some x) len row top is at p heap none = record {
  heap = λ h. (heap h).0;
  was = λ r i. out_was old new x p _ i;
  stays = λ r i. elim (out_stays old new x p _ i) [
    | inl e ↦ inl (sym (ap (λ (y : Reverse ℕ). y.0) e) ∙ same)
    | inr still ↦ inr still
  ];
}
  where
    same : x.0 ≡ row
    same = ap (λ (e : Reverse ℕ). e.0) (at ∙ get_or_from_slice_get old 0 _ x top)

-- ---- rows go from one queue to the other

-- rows that are ready by a tick have gone from the first queue to the second, one after another
pub record IsMoving (tick : ℕ) (waiting : List Entry) (ready : List (Reverse ℕ)) (waiting' : List Entry) (ready' : List (Reverse ℕ)) : Type 0 where
  pub waiting_heap : IsHeap entry_order waiting'
  pub ready_heap : IsHeap row_order ready'
  pub waited : (due r : ℕ) → IsIn waiting' due r → IsIn waiting due r
  pub moved : (due r : ℕ) → IsIn waiting due r → IsReady ready' r ⊎ IsIn waiting' due r
  pub stays : (r : ℕ) → IsReady ready r → IsReady ready' r
  pub was : (r : ℕ) → IsReady ready' r → IsReady ready r ⊎ ((due : ℕ) × (due ≤ tick) × IsIn waiting due r)

module _ (tick : ℕ) (waiting : List Entry) (ready : List (Reverse ℕ)) where
  pub moving_none : IsHeap entry_order waiting → IsHeap row_order ready → IsMoving tick waiting ready waiting ready
  moving_none w r = record {
    waiting_heap = w;
    ready_heap = r;
    waited = λ due q i. i;
    moved = λ due q i. inr i;
    stays = λ q i. i;
    was = λ q i. inl i;
  }

  module _ (waiting' : List Entry) (ready' : List (Reverse ℕ)) (m : IsMoving tick waiting ready waiting' ready') where
    pub moving_done : ((due r : ℕ) → IsIn waiting' due r → tick < due) → IsGathered tick waiting ready waiting' ready'
    moving_done after = record {
      waiting_heap = m.waiting_heap;
      ready_heap = m.ready_heap;
      later_left = after;
      waited = m.waited;
      moved = m.moved;
      stays = m.stays;
      was = m.was;
    }

    pub moving_more : (more : List Entry) (ready_more : List (Reverse ℕ)) (row : ℕ) → IsHeap entry_order more → IsHeap row_order ready_more
        → ((due r : ℕ) → IsIn more due r → IsIn waiting' due r) → ((due : ℕ) × (due ≤ tick) × IsIn waiting' due row)
        → ((due r : ℕ) → IsIn waiting' due r → (r ≡ row) ⊎ IsIn more due r) → IsPermutation (record { 0 = row } ∷ ready') ready_more
        → IsMoving tick waiting ready more ready_more
    moving_more more ready_more row w r was taken stays p = record {
      waiting_heap = w;
      ready_heap = r;
      waited = λ due q i. m.waited due q (was due q i);
      moved = λ due q i. elim (m.moved due q i) [
        | inl now ↦ inl (in_stays ready_more ready' (record { 0 = row }) p _ now)
        | inr still ↦ elim (stays due q still) [
          | inl e ↦ inl (subst (λ (x : ℕ). IsReady ready_more x) (sym e) (in_here ready_more ready' (record { 0 = row }) p))
          | inr left ↦ inr left
        ]
      ];
      stays = λ q i. in_stays ready_more ready' (record { 0 = row }) p _ (m.stays q i);
      was = λ q i. elim (in_was ready_more ready' (record { 0 = row }) p _ i) [
        | inl e ↦ (
            let (due, by, at) = taken in
            let same : row ≡ q = ap (λ (y : Reverse ℕ). y.0) e in
            inr (due, by, subst (λ (x : ℕ). IsIn waiting due x) same (m.waited due row at)))
        | inr old ↦ m.was q old
      ];
    }
