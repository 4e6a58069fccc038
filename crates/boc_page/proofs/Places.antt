-- What stands at a place of a list.
use Rattle.std.proofs.Common.{◌≡◌, ℕ, zero, suc, ◌+◌, ◌⊎◌, inl, inr, List, [], ◌∷◌, ◌++◌, length, Some, slice_get, map, refl, ap, ◌∙◌, arith}
use Rattle.std.specs.List.{range_with_len}
use native.Mathlib.Numerals.{unary_clauses}
use Rattle.std.proofs.lemmas.Option.{none-some, same_Some}

-- what is put behind a list stands at its end
pub slice_get-pushed : {A : Type 0} (xs : List A) (x : A) → slice_get (xs ++ x ∷ []) (length xs) ≡ Some x
slice_get-pushed [] x = refl
slice_get-pushed (y ∷ xs) x = slice_get-pushed xs x

-- and what was there stays
pub slice_get-before : {A : Type 0} (xs ys : List A) (k : ℕ) (x : A) → slice_get xs k ≡ Some x → slice_get (xs ++ ys) k ≡ Some x
slice_get-before [] ys k x e = absurd (none-some x e)
slice_get-before (y ∷ xs) ys zero x e = e
slice_get-before (y ∷ xs) ys (suc k) x e = slice_get-before xs ys k x e

-- what stands there now stood there, or was put behind
pub slice_get-in_pushed : {A : Type 0} (xs : List A) (y : A) (k : ℕ) (x : A) → slice_get (xs ++ y ∷ []) k ≡ Some x
    → (slice_get xs k ≡ Some x) ⊎ ((k ≡ length xs) × (y ≡ x))
slice_get-in_pushed [] y zero x e = inr (refl, same_Some y x e)
slice_get-in_pushed [] y (suc k) x e = absurd (none-some x e)
slice_get-in_pushed (z ∷ xs) y zero x e = inl e
slice_get-in_pushed (z ∷ xs) y (suc k) x e = elim (slice_get-in_pushed xs y k x e) [
  | inl h ↦ inl h
  | inr h ↦ inr (ap suc h.0, h.1)
]

-- lists are the same where the same stands at each place
pub same_at_each : {A : Type 0} (xs ys : List A) → length xs ≡ length ys
    → ((k : ℕ) (x y : A) → slice_get xs k ≡ Some x → slice_get ys k ≡ Some y → x ≡ y) → xs ≡ ys
same_at_each [] [] e h = refl
same_at_each [] (y ∷ ys) e h = absurd (omega (arith, e))
same_at_each (x ∷ xs) [] e h = absurd (omega (arith, e))
same_at_each (x ∷ xs) (y ∷ ys) e h = λ i. h 0 x y refl refl i ∷ same_at_each xs ys (omega (arith, e)) (λ k. h (suc k)) i

-- one more number in a row
lines_from : {A : Type 0} (f : ℕ → A) (a n : ℕ) → map f (range_with_len a (suc n)) ≡ map f (range_with_len a n) ++ f (a + n) ∷ []
lines_from f a zero = simp unary_clauses
lines_from f a (suc n) = let e = lines_from f (a + 1) n in let same : a + 1 + n ≡ a + suc n = omega arith in
    ap (λ xs. f a ∷ xs) e ∙ ap (λ (k : ℕ). f a ∷ (map f (range_with_len (a + 1) n) ++ f k ∷ [])) same

pub lines_more : {A : Type 0} (f : ℕ → A) (n : ℕ) → map f (range_with_len 0 (n + 1)) ≡ map f (range_with_len 0 n) ++ f n ∷ []
lines_more f n = let e = lines_from f 0 n in let same : suc n ≡ n + 1 = omega arith in
    let none : 0 + n ≡ n = omega arith in
    rw (← same) (rw none at e)
