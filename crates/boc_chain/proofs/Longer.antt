-- Tables of slots that get longer.
use Rattle.std.proofs.Common.{◌≡◌, ℕ, zero, suc, ◌+◌, List, [], ◌∷◌, ◌++◌}
use Rattle.std.proofs.Common.{refl, sym, ◌∙◌, ap, arith}
use Rattle.std.specs.Prelude.{Option, None, replicate}
use Rattle.std.specs.List.{sum_by}
use Rattle.std.proofs.lemmas.List.Sums.{sum_by-cons}

-- a vacant place more at the end
pub one_vacant : {X : Type 0} (xs : List (Option X)) (n : ℕ) → (xs ++ replicate n None) ++ (None ∷ []) ≡ xs ++ replicate (suc n) None
one_vacant [] zero = refl
one_vacant [] (suc n) = ap (λ ys. None ∷ ys) (one_vacant [] n)
one_vacant (x ∷ xs) n = ap (λ ys. x ∷ ys) (one_vacant xs n)

-- changes no sum to which a vacant place adds nothing
pub sum_longer : {X : Type 0} (f : Option X → ℕ) → f None ≡ 0 → (xs : List (Option X)) (n : ℕ) → sum_by f (xs ++ replicate n None) ≡ sum_by f xs
sum_longer f z [] zero = refl
sum_longer f z [] (suc n) = omega (arith, sum_by-cons f None (replicate n None), z, sum_longer f z [] n)
sum_longer f z (x ∷ xs) n = sum_by-cons f x (xs ++ replicate n None) ∙ ap (λ k. f x + k) (sum_longer f z xs n) ∙ sym (sum_by-cons f x xs)
