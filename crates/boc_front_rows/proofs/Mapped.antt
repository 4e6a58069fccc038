-- Reading lists that are mapped.
use Rattle.std.proofs.Common.{◌≡◌, ℕ, zero, suc, ◌+◌, ◌<◌, List, [], ◌∷◌, length, map, refl, sym, ◌∙◌, ap, subst, arith, inl, inr}
use Rattle.std.specs.Prelude.{slice_get, slice_index_or, Option, Some, None}
use Rattle.std.specs.List.{Contains}
use Rattle.boc_program.proofs.RisingNumbers.{has_first, has_later, first_or_later, none_in_none}

pub at_mapped : {A B : Type 0} (f : A → B) (xs : List A) (i : ℕ) (x : A) → slice_get xs i ≡ Some x → slice_get (map f xs) i ≡ Some (f x)
at_mapped f [] i x e = absurd (let g : None ≡ Some x = e in cc)
at_mapped f (y ∷ xs) zero x e = (let g : Some y ≡ Some x = e in let same : y ≡ x = cc in ap (λ z. Some (f z)) same)
at_mapped f (y ∷ xs) (suc i) x e = at_mapped f xs i x e

pub mapped_at : {A B : Type 0} (f : A → B) (xs : List A) (i : ℕ) (y : B) → slice_get (map f xs) i ≡ Some y
    → (x : A) × (slice_get xs i ≡ Some x) × (f x ≡ y)
mapped_at f [] i y e = absurd (let g : None ≡ Some y = e in cc)
mapped_at f (x ∷ xs) zero y e = (x, refl, let g : Some (f x) ≡ Some y = e in cc)
mapped_at f (x ∷ xs) (suc i) y e = mapped_at f xs i y e

pub has_mapped : {A B : Type 0} (f : A → B) (xs : List A) (x : A) → Contains xs x → Contains (map f xs) (f x)
has_mapped f [] x h = absurd (none_in_none x h)
has_mapped f (y ∷ xs) x h =
    elim (first_or_later y x xs h) [
      | inl e ↦ subst (λ z. Contains (f y ∷ map f xs) z) (ap f e) (has_first (f y) (map f xs))
      | inr later ↦ has_later (f y) (f x) (map f xs) (has_mapped f xs x later)
    ]

pub mapped_has : {A B : Type 0} (f : A → B) (xs : List A) (y : B) → Contains (map f xs) y → (x : A) × Contains xs x × (f x ≡ y)
mapped_has f [] y h = absurd (none_in_none y h)
mapped_has f (x ∷ xs) y h =
    elim (first_or_later (f x) y (map f xs) h) [
      | inl e ↦ (x, has_first x xs, e)
      | inr later ↦ let r = mapped_has f xs y later in (r.0, has_later x r.0 xs r.1, r.2)
    ]

-- what is read from options is there
pub read_some : (xs : List (Option ℕ)) (i k : ℕ) → slice_index_or xs i None ≡ Some k → slice_get xs i ≡ Some (Some k)
read_some [] i k e = absurd (let f : None ≡ Some k = e in cc)
read_some (x ∷ xs) zero k e = (let f : x ≡ Some k = e in ap (λ z. Some z) f)
read_some (x ∷ xs) (suc i) k e = read_some xs i k e

pub some_read : (xs : List (Option ℕ)) (i k : ℕ) → slice_get xs i ≡ Some (Some k) → slice_index_or xs i None ≡ Some k
some_read [] i k e = absurd (let f : None ≡ Some (Some k) = e in cc)
some_read (x ∷ xs) zero k e = (let f : Some x ≡ Some (Some k) = e in cc)
some_read (x ∷ xs) (suc i) k e = some_read xs i k e
