-- Lists of which one element was changed, or that have one more.
use Rattle.std.proofs.Common.{◌≡◌, ℕ, zero, suc, ◌≢◌, ◌⊎◌, List, [], ◌∷◌, ◌++◌, length, refl, sym, ◌∙◌, ap, inl, inr, arith}
use Rattle.std.specs.Prelude.{slice_get, slice_set, Some, None}

pub got_set : {A : Type 0} (xs : List A) (r k : ℕ) (v x : A) → slice_get (slice_set xs r v) k ≡ Some x
    → ((k ≡ r) × (v ≡ x)) ⊎ ((k ≢ r) × (slice_get xs k ≡ Some x))
got_set [] r k v x e = absurd (let f : None ≡ Some x = e in cc)
got_set (y ∷ xs) zero zero v x e = inl (refl, (let f : Some v ≡ Some x = e in cc))
got_set (y ∷ xs) zero (suc k) v x e = inr ((λ f. omega arith), e)
got_set (y ∷ xs) (suc r) zero v x e = inr ((λ f. omega arith), e)
got_set (y ∷ xs) (suc r) (suc k) v x e =
    elim (got_set xs r k v x e) [
      | inl p ↦ inl (ap suc p.0, p.1)
      | inr p ↦ inr ((λ f. p.0 (omega arith)), p.1)
    ]

pub set_same : {A : Type 0} (xs : List A) (r : ℕ) (v x : A) → slice_get xs r ≡ Some x → slice_get (slice_set xs r v) r ≡ Some v
set_same [] r v x e = absurd (let f : None ≡ Some x = e in cc)
set_same (y ∷ xs) zero v x e = refl
set_same (y ∷ xs) (suc r) v x e = set_same xs r v x e

pub got_push : {A : Type 0} (xs : List A) (k : ℕ) (v x : A) → slice_get (xs ++ (v ∷ [])) k ≡ Some x → (slice_get xs k ≡ Some x) ⊎ ((k ≡ length xs) × (v ≡ x))
got_push [] zero v x e = inr (refl, (let f : Some v ≡ Some x = e in cc))
got_push [] (suc k) v x e = absurd (let f : None ≡ Some x = e in cc)
got_push (y ∷ xs) zero v x e = inl e
got_push (y ∷ xs) (suc k) v x e =
    elim (got_push xs k v x e) [
      | inl f ↦ inl f
      | inr p ↦ inr (ap suc p.0, p.1)
    ]

pub one_got : {A : Type 0} (xs : List A) (k : ℕ) (x y : A) → slice_get xs k ≡ Some x → slice_get xs k ≡ Some y → x ≡ y
one_got xs k x y e f = let g : Some x ≡ Some y = sym e ∙ f in cc

pub got_at : {A : Type 0} (xs : List A) (k m : ℕ) (x : A) → k ≡ m → slice_get xs m ≡ Some x → slice_get xs k ≡ Some x
got_at xs k m x e f = ap (slice_get xs) e ∙ f
