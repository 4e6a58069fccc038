-- Counts of what passes a test, in a list and in its parts.
use Rattle.std.proofs.Common.{◌≡◌, ℕ, suc, ◌+◌, ◌<◌, ◌≤◌, List, [], ◌∷◌, length, take, drop, get_or, Bool, true, false, cond, refl, sym, arith}
use Rattle.std.specs.Prelude.{count_by}
use Rattle.std.specs.List.Sorted.{IsPermutation}
use Rattle.std.proofs.lemmas.Bool.{true≢false}
use Rattle.std.proofs.lemmas.List.Sums.{sum_by-cons, sum_by-take-drop, sum_by-take-le}
use Rattle.std.proofs.lemmas.List.Sorted.{sum_by-IsPermutation}

pub count_by-cons : {X : Type 0} (p : X → Bool) (x : X) (xs : List X) → count_by p (x ∷ xs) ≡ cond (p x) 1 0 + count_by p xs
count_by-cons p x xs = sum_by-cons (λ y. cond (p y) 1 0) x xs

cond_le : (a b : Bool) → (a ≡ true → b ≡ true) → cond a 1 0 ≤ cond b 1 0
cond_le true true h = omega arith
cond_le true false h = absurd (true≢false (sym (h refl)))
cond_le false true h = omega arith
cond_le false false h = omega arith

cond_one : (b : Bool) → b ≡ true → ◌≡◌ {A = ℕ} (cond b 1 0) 1
cond_one true e = refl
cond_one false e = absurd (true≢false (sym e))

cond_none : (b : Bool) → b ≡ false → ◌≡◌ {A = ℕ} (cond b 1 0) 0
cond_none true e = absurd (true≢false e)
cond_none false e = refl

-- what passes one test passes another
pub count_le : {X : Type 0} (p q : X → Bool) (xs : List X) → ((i : ℕ) (d : X) → i < length xs → p (get_or xs i d) ≡ true → q (get_or xs i d) ≡ true)
    → count_by p xs ≤ count_by q xs
count_le p q [] h = omega arith
count_le p q (x ∷ xs) h = omega (
  arith,
  count_by-cons p x xs,
  count_by-cons q x xs,
  cond_le (p x) (q x) (h 0 x (omega arith)),
  count_le p q xs (λ i d l. h (suc i) d (omega (arith, l))),
)

pub count_none : {X : Type 0} (p : X → Bool) (xs : List X) → ((i : ℕ) (d : X) → i < length xs → p (get_or xs i d) ≡ false) → count_by p xs ≡ 0
count_none p [] h = refl
count_none p (x ∷ xs) h = omega (
  arith,
  count_by-cons p x xs,
  cond_none (p x) (h 0 x (omega arith)),
  count_none p xs (λ i d l. h (suc i) d (omega (arith, l))),
)

pub count_all : {X : Type 0} (p : X → Bool) (xs : List X) → ((i : ℕ) (d : X) → i < length xs → p (get_or xs i d) ≡ true) → count_by p xs ≡ length xs
count_all p [] h = refl
count_all p (x ∷ xs) h = omega (
  arith,
  count_by-cons p x xs,
  cond_one (p x) (h 0 x (omega arith)),
  count_all p xs (λ i d l. h (suc i) d (omega (arith, l))),
)

pub count_parts : {X : Type 0} (p : X → Bool) (xs : List X) (k : ℕ) → count_by p (take k xs) + count_by p (drop k xs) ≡ count_by p xs
count_parts p xs k = sum_by-take-drop (λ y. cond (p y) 1 0) xs k

pub count_front : {X : Type 0} (p : X → Bool) (xs : List X) (k : ℕ) → count_by p (take k xs) ≤ count_by p xs
count_front p xs k = sum_by-take-le (λ y. cond (p y) 1 0) xs k

pub count_moved : {X : Type 0} (p : X → Bool) (xs ys : List X) → IsPermutation xs ys → count_by p ys ≡ count_by p xs
count_moved p xs ys h = sum_by-IsPermutation (λ y. cond (p y) 1 0) xs ys h
