-- Beginnings of lists.
use Rattle.std.proofs.Common.{◌≡◌, ℕ, zero, suc, List, [], ◌∷◌, ◌++◌, take, ap}
use Rattle.std.specs.Prelude.{slice_get, Some, None}

-- one item more of a list
pub take_next : {A : Type 0} (xs : List A) (n : ℕ) (x : A) → slice_get xs n ≡ Some x → take (suc n) xs ≡ take n xs ++ x ∷ []
take_next [] n x e = absurd (let f : None ≡ Some x = e in cc)
take_next (y ∷ xs) zero x e = (let f : Some y ≡ Some x = e in let g : y ≡ x = cc in ap (λ z. z ∷ []) g)
take_next (y ∷ xs) (suc n) x e = ap (λ ys. y ∷ ys) (take_next xs n x e)
