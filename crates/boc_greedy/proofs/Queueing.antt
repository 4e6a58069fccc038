-- The rows that are in the set of those that can start, as one goes in or out.
use Rattle.std.proofs.Common.{◌≡◌, ◌≢◌, ℕ, zero, suc, ◌<◌, ◌⊎◌, List, [], ◌∷◌, length, get_or, sym, subst, inl, inr, arith}
use Rattle.std.specs.Prelude.{◌↔◌}
use Rattle.std.specs.List.{Contains}
use Rattle.std.proofs.lemmas.Bool.{cases_eq}
use Rattle.boc_greedy.specs.declared.row_set.RowSet.{RowSet}
use Rattle.boc_greedy.specs.RowSets.{IsRowSet, Has}
use Rattle.boc_greedy.specs.Frontier.{AreQueuedBut}

-- the set is one, and has the rows that it is to have
pub queued : (left : List ℕ) (Is : ℕ → Type 0) (ready : RowSet) → IsRowSet ready → ((r : ℕ) → Has ready r → Is r)
    → ((r : ℕ) → Is r → Has ready r ⊎ Contains left r) →
    AreQueuedBut left Is ready
unfolding AreQueuedBut
queued left Is ready set only all = (set, only, all)

pub queued_set : (left : List ℕ) (Is : ℕ → Type 0) (ready : RowSet) → AreQueuedBut left Is ready → IsRowSet ready
unfolding AreQueuedBut
queued_set left Is ready q = q.0

pub queued_only : (left : List ℕ) (Is : ℕ → Type 0) (ready : RowSet) → AreQueuedBut left Is ready → (r : ℕ) → Has ready r → Is r
unfolding AreQueuedBut
queued_only left Is ready q = q.1

pub queued_all : (left : List ℕ) (Is : ℕ → Type 0) (ready : RowSet) → AreQueuedBut left Is ready → (r : ℕ) → Is r → Has ready r ⊎ Contains left r
unfolding AreQueuedBut
queued_all left Is ready q = q.2

-- no row is left
pub none_left : (r : ℕ) → Contains [] r → ⊥
none_left r h = omega (arith, h.1)

pub queued_each : (Is : ℕ → Type 0) (ready : RowSet) → AreQueuedBut [] Is ready → (r : ℕ) → Has ready r ↔ Is r
queued_each Is ready q r = (
  queued_only [] Is ready q r,
  λ m. elim (queued_all [] Is ready q r m) [ inl h ↦ h | inr l ↦ absurd (none_left r l) ],
)

-- other rows are to be in the set, but all of them were or are left
pub queued_more : (Is Is' : ℕ → Type 0) (left : List ℕ) (ready : RowSet) → AreQueuedBut [] Is ready → ((r : ℕ) → Is r → Is' r) →
    ((r : ℕ) → Is' r → Is r ⊎ Contains left r) → AreQueuedBut left Is' ready
queued_more Is Is' left ready q to from = queued left Is' ready (queued_set [] Is ready q) (λ r h. to r (queued_only [] Is ready q r h))
    (λ r m. elim (from r m) [ inl i ↦ inl ((queued_each Is ready q r).1 i) | inr l ↦ inr l ])

first_or_later : (x : ℕ) (xs : List ℕ) (r : ℕ) → Contains (x ∷ xs) r → (r ≡ x) ⊎ Contains xs r
first_or_later x xs r h = by_place x xs r h.0 h.1 h.2
  where
    by_place : (x : ℕ) (xs : List ℕ) (r k : ℕ) → k < length (x ∷ xs) → get_or (x ∷ xs) k r ≡ r → (r ≡ x) ⊎ Contains xs r
    by_place x xs r zero l e = inl (sym e)
    by_place x xs r (suc k) l e = inr (k, omega (arith, l), e)

-- a row that was left was looked at: it comes into the set only where it is to be there, and where it is, it comes in or is left still
pub queued_woken : (Is : ℕ → Type 0) (Comes : Type 0) (x : ℕ) (left : List ℕ) (ready ready' : RowSet) → AreQueuedBut (x ∷ left) Is ready → IsRowSet ready' →
    ((r : ℕ) → Has ready' r ↔ (Has ready r ⊎ ((r ≡ x) × Comes))) → (Comes → Is x) → (Is x → Comes ⊎ Contains left x) → AreQueuedBut left Is ready'
queued_woken Is Comes x left ready ready' q set rows only all = queued left Is ready' set
    (λ r h. elim ((rows r).0 h) [
      | inl was ↦ queued_only (x ∷ left) Is ready q r was
      | inr p ↦ subst Is (sym p.0) (only p.1)
    ])
    (λ r m. elim (queued_all (x ∷ left) Is ready q r m) [
      | inl h ↦ inl ((rows r).1 (inl h))
      | inr l ↦ elim (first_or_later x left r l) [
        | inl e ↦ elim (all (subst Is e m)) [
          | inl comes ↦ inl ((rows r).1 (inr (e, comes)))
          | inr still ↦ inr (subst (λ (y : ℕ). Contains left y) (sym e) still)
        ]
        | inr later ↦ inr later
      ]
    ])

-- a row comes out
pub queued_pop : (Is Is' : ℕ → Type 0) (x : ℕ) (ready ready' : RowSet) → AreQueuedBut [] Is ready →
    IsRowSet ready' → ((r : ℕ) → Has ready' r ↔ (Has ready r × (r ≢ x))) →
    (Is' x → ⊥) → ((r : ℕ) → r ≢ x → Is r → Is' r) → ((r : ℕ) → r ≢ x → Is' r → Is r) → AreQueuedBut [] Is' ready'
queued_pop Is Is' x ready ready' q set less out to from = queued [] Is' ready' set
    (λ r h. (let p = (less r).0 h in to r p.1 (queued_only [] Is ready q r p.0)))
    (λ r m. elim (cases_eq r x) [
      | inl e ↦ absurd (out (subst Is' e m))
      | inr n ↦ inl ((less r).1 ((queued_each Is ready q r).1 (from r n m), n))
    ])
