-- A change of one item of a list, seen through a map.
use Rattle.std.proofs.Common.{◌≡◌, ℕ, zero, suc, List, [], ◌∷◌, map, refl, sym, ◌∙◌, ap}
use Rattle.std.specs.Prelude.{slice_get, slice_set, Option, Some, None}
use Rattle.boc_program.specs.Changed.{changed}

pub head_kept : {A : Type 0} (x : A) (xs : List A) (i : ℕ) (f : A → A) (o : Option A) → changed (x ∷ xs) (suc i) f o ≡ x ∷ changed xs i f o
head_kept x xs i f None = refl
head_kept x xs i f (Some y) = refl

-- a change that shows as another, where the item is there
pub map-changed : {A B : Type 0} (g : A → B) (f : A → A) (h : B → B) (xs : List A) (i : ℕ) → ((x : A) → slice_get xs i ≡ Some x → g (f x) ≡ h (g x))
    → map g (changed xs i f (slice_get xs i)) ≡ changed (map g xs) i h (slice_get (map g xs) i)
map-changed g f h [] i same = refl
map-changed g f h (x ∷ xs) zero same = ap (λ y. y ∷ map g xs) (same x refl)
map-changed g f h (x ∷ xs) (suc i) same =
    ap (map g) (head_kept x xs i f (slice_get xs i)) ∙ ap (λ ys. g x ∷ ys) (map-changed g f h xs i same)
    ∙ sym (head_kept (g x) (map g xs) i h (slice_get (map g xs) i))

-- an item that is set shows as a change of what stood there
pub map-set : {A B : Type 0} (g : A → B) (h : B → B) (xs : List A) (i : ℕ) (x y : A) → slice_get xs i ≡ Some x → g y ≡ h (g x)
    → map g (slice_set xs i y) ≡ changed (map g xs) i h (slice_get (map g xs) i)
map-set g h [] i x y at same = absurd (let e : None ≡ Some x = at in cc)
map-set g h (z ∷ xs) zero x y at same =
    let e : z ≡ x = (let f : Some z ≡ Some x = at in cc) in
    ap (λ w. w ∷ map g xs) (same ∙ ap (λ w. h (g w)) (sym e))
map-set g h (z ∷ xs) (suc i) x y at same =
    ap (λ ys. g z ∷ ys) (map-set g h xs i x y at same)
    ∙ sym (head_kept (g z) (map g xs) i h (slice_get (map g xs) i))

-- setting an item to one that shows the same shows nothing
pub map-set_same : {A B : Type 0} (g : A → B) (xs : List A) (i : ℕ) (x y : A) → slice_get xs i ≡ Some x → g y ≡ g x → map g (slice_set xs i y) ≡ map g xs
map-set_same g [] i x y at same = refl
map-set_same g (z ∷ xs) zero x y at same =
    let e : z ≡ x = (let f : Some z ≡ Some x = at in cc) in
    ap (λ w. w ∷ map g xs) (same ∙ ap g (sym e))
map-set_same g (z ∷ xs) (suc i) x y at same = ap (λ ys. g z ∷ ys) (map-set_same g xs i x y at same)
