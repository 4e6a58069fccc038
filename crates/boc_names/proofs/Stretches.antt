-- Stretches, one after the other.
use Rattle.std.proofs.Common.{◌≡◌, ◌∙◌, ℕ, zero, suc, ◌+◌, ◌-◌, ◌<◌, ◌≤◌, Bool, true, false, List, [], ◌∷◌, length, get_or, take, drop, refl, ap, subst, arith}
use Rattle.std.specs.Prelude.{cond}
use Rattle.boc_names.specs.Stretches.{at_front, stretches}

-- where each of the first things goes on from the one before it, up to this place, and the next one doesn't, they are the first stretch
from_first : {A : Type 0} (goes_on : A → A → Bool) (xs : List A) (n : ℕ) (d : A) → n < length xs
    → ((k : ℕ) → k < n → goes_on (get_or xs k d) (get_or xs (suc k) d) ≡ true)
    → (suc n < length xs → goes_on (get_or xs n d) (get_or xs (suc n) d) ≡ false)
    → stretches goes_on xs ≡ take (suc n) xs ∷ stretches goes_on (drop (suc n) xs)
from_first goes_on [] n d some together apart = absurd (omega arith)
from_first goes_on (x ∷ []) zero d some together apart = refl
from_first goes_on (x ∷ []) (suc n) d some together apart = absurd (omega arith)
from_first {A} goes_on (x ∷ y ∷ rest) zero d some together apart =
    let next : List (List A) = stretches goes_on (y ∷ rest) in
    ap (λ (goes : Bool). cond goes (at_front x next) ((x ∷ []) ∷ next)) (apart (omega arith))
from_first {A} goes_on (x ∷ y ∷ rest) (suc n) d some together apart =
    let next : List (List A) = stretches goes_on (y ∷ rest) in
    ap (λ (goes : Bool). cond goes (at_front x next) ((x ∷ []) ∷ next)) (together 0 (omega arith))
    ∙ ap (at_front x)
    (from_first goes_on (y ∷ rest) n d (omega arith) (λ k h. together (suc k) (omega (arith, h))) (λ h. apart (omega (arith, h))))

-- the same, for so many things
pub first_stretch : {A : Type 0} (goes_on : A → A → Bool) (xs : List A) (n : ℕ) (d : A) → 0 < n → n ≤ length xs
    → ((k : ℕ) → k + 1 < n → goes_on (get_or xs k d) (get_or xs (k + 1) d) ≡ true)
    → (n < length xs → goes_on (get_or xs (n - 1) d) (get_or xs n d) ≡ false)
    → stretches goes_on xs ≡ take n xs ∷ stretches goes_on (drop n xs)
first_stretch goes_on xs zero d some within together apart = absurd (omega arith)
first_stretch goes_on xs (suc n) d some within together apart =
    from_first goes_on xs n d (omega arith)
    (λ k h. let next : k + 1 ≡ suc k = omega arith in
    subst (λ (m : ℕ). goes_on (get_or xs k d) (get_or xs m d) ≡ true) next (together k (omega (arith, h))))
    (λ h. let last : suc n - 1 ≡ n = omega arith in
    subst (λ (m : ℕ). goes_on (get_or xs m d) (get_or xs (suc n) d) ≡ false) last (apart (omega (arith, h))))
