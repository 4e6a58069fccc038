-- Places that are marked, and the free ones among them.
use Rattle.std.proofs.Common.{◌≡◌, ◌⊎◌, ℕ, zero, suc, ◌+◌, inl, inr, refl, List, [], ◌∷◌, ◌++◌, sym, subst, arith, IsTrue, Bool, true, false, Some, None}
use Rattle.std.specs.Prelude.{◌&&◌, if◌then◌else◌, slice_get}
use Rattle.std.specs.List.{Contains}
use Rattle.boc_program.proofs.RisingNumbers.{has_first, has_later, first_or_later, none_in_none}
use Rattle.boc_program.proofs.Truth.{and_true}
use Rattle.boc_front_rows.specs.Rows.{Plain}
use Rattle.boc_footprints.specs.Spreading.{is_marked}
use Rattle.boc_footprints.proofs.Truths.{both_true}
use Rattle.boc_choices.specs.Holding.{is_free, free_marked}

-- the places that are marked; the first mark is of this place
abbrev pub places_from : ℕ → List Bool → List ℕ
places_from n [] = []
places_from n (m ∷ marks) = (if m then n ∷ [] else []) ++ places_from (n + 1) marks

abbrev pub inside : List Bool → List ℕ
inside marks = places_from 0 marks

-- a number in front of others, where a test holds
may_be_first : (b : Bool) (n i : ℕ) (others : List ℕ) → Contains ((if b then n ∷ [] else []) ++ others) i → (IsTrue b × (n ≡ i)) ⊎ Contains others i
may_be_first false n i others h = inr h
may_be_first true n i others h = elim (first_or_later n i others h) [
  | inl is ↦ inl (refl, is)
  | inr later ↦ inr later
]

stands_first : (b : Bool) (n : ℕ) (others : List ℕ) → IsTrue b → Contains ((if b then n ∷ [] else []) ++ others) n
stands_first true n others h = has_first n others
stands_first false n others h = absurd cc

stands_later : (b : Bool) (n i : ℕ) (others : List ℕ) → Contains others i → Contains ((if b then n ∷ [] else []) ++ others) i
stands_later true n i others h = has_later n i others h
stands_later false n i others h = h

marked_from : (n : ℕ) (marks : List Bool) (i : ℕ) → Contains (places_from n marks) i → (k : ℕ) × (n + k ≡ i) × IsTrue (is_marked marks k)
marked_from n [] i h = absurd (none_in_none i h)
marked_from n (m ∷ marks) i h = elim (may_be_first m n i (places_from (n + 1) marks) h) [
  | inl here ↦ (0, omega (arith, here.1), here.0)
  | inr later ↦ let r = marked_from (n + 1) marks i later in (suc r.0, omega (arith, r.1), r.2)
]

from_marked : (n : ℕ) (marks : List Bool) (k : ℕ) → IsTrue (is_marked marks k) → Contains (places_from n marks) (n + k)
from_marked n [] k h = absurd cc
from_marked n (m ∷ marks) zero h =
    let at : n ≡ n + 0 = omega arith in
    subst (λ i. Contains (places_from n (m ∷ marks)) i) at (stands_first m n (places_from (n + 1) marks) h)
from_marked n (m ∷ marks) (suc k) h =
    let at : n + 1 + k ≡ n + suc k = omega arith in
    stands_later m n (n + suc k) (places_from (n + 1) marks)
    (subst (λ i. Contains (places_from (n + 1) marks) i) at (from_marked (n + 1) marks k h))

pub marked_inside : (marks : List Bool) (i : ℕ) → Contains (inside marks) i → IsTrue (is_marked marks i)
marked_inside marks i h =
    let r = marked_from 0 marks i h in
    let at : r.0 ≡ i = omega (arith, r.1) in
    subst (λ k. IsTrue (is_marked marks k)) at r.2

pub inside_marked : (marks : List Bool) (i : ℕ) → IsTrue (is_marked marks i) → Contains (inside marks) i
inside_marked marks i h =
    let at : 0 + i ≡ i = omega arith in
    subst (λ k. Contains (inside marks) k) at (from_marked 0 marks i h)

-- a marked place whose row is free
pub record IsFreeMarked (marks : List Bool) (rows : List Plain) (n i : ℕ) : Type 0 where
  pub place : ℕ
  pub at : n + place ≡ i
  pub row : Plain
  pub is : slice_get rows place ≡ Some row
  pub marked : IsTrue (is_marked marks i)
  pub free : IsTrue (is_free row)

pub free_marked_is : (marks : List Bool) (n : ℕ) (rows : List Plain) (i : ℕ) → Contains (free_marked marks n rows) i → IsFreeMarked marks rows n i
free_marked_is marks n [] i h = absurd (none_in_none i h)
free_marked_is marks n (r ∷ rows) i h =
    elim (may_be_first (is_marked marks n && is_free r) n i (free_marked marks (n + 1) rows) h) [
      | inl here ↦
          let both = and_true (is_marked marks n) (is_free r) here.0 in
          record {
            place = 0;
            at = omega (arith, here.1);
            row = r;
            is = refl;
            marked = subst (λ k. IsTrue (is_marked marks k)) here.1 both.0;
            free = both.1;
          }
      | inr later ↦
          let s = free_marked_is marks (n + 1) rows i later in
          record { place = suc s.place; at = omega (arith, s.at); row = s.row; is = s.is; marked = s.marked; free = s.free }
    ]

pub is_free_marked : (marks : List Bool) (n : ℕ) (rows : List Plain) (k : ℕ) (r : Plain) → slice_get rows k ≡ Some r → IsTrue (is_marked marks (n + k))
    → IsTrue (is_free r) → Contains (free_marked marks n rows) (n + k)
is_free_marked marks n [] k r is marked free = absurd (let f : None ≡ Some r = is in cc)
is_free_marked marks n (x ∷ rows) zero r is marked free =
    let same : x ≡ r = (let f : Some x ≡ Some r = is in cc) in
    let at : n + 0 ≡ n = omega arith in
    subst (λ i. Contains (free_marked marks n (x ∷ rows)) i) (sym at)
    (stands_first (is_marked marks n && is_free x) n (free_marked marks (n + 1) rows)
    (both_true (is_marked marks n) (is_free x) (subst (λ i. IsTrue (is_marked marks i)) at marked) (subst (λ y. IsTrue (is_free y)) (sym same) free)))
is_free_marked marks n (x ∷ rows) (suc k) r is marked free =
    let at : n + 1 + k ≡ n + suc k = omega arith in
    stands_later (is_marked marks n && is_free x) n (n + suc k) (free_marked marks (n + 1) rows)
    (subst (λ i. Contains (free_marked marks (n + 1) rows) i) at
    (is_free_marked marks (n + 1) rows k r is (subst (λ i. IsTrue (is_marked marks i)) (sym at) marked) free))
