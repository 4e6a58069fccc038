-- Lists of which one item is changed, and lists with one more item.
use Rattle.std.proofs.Common.{◌≡◌, ◌≢◌, ℕ, zero, suc, ◌<◌, ◌≤◌, List, [], ◌∷◌, ◌++◌, length, take, drop, Some, None, refl, sym, ap, ◌∙◌, ◌+◌, ◌-◌, arith}
use Rattle.std.specs.Prelude.{slice_get, slice_set, slice_range, Option}
use Rattle.std.proofs.lemmas.List.{length-set, length-drop, take-append-le, drop-append-le, drop_at, take_all}
use Rattle.boc_program.specs.Changed.{changed}

-- there is an item at each place below the length
pub item_at : {A : Type 0} (xs : List A) (i : ℕ) → i < length xs → (x : A) × (slice_get xs i ≡ Some x)
item_at [] i h = absurd (omega arith)
item_at (x ∷ xs) zero h = (x, refl)
item_at (x ∷ xs) (suc i) h = item_at xs i (omega arith)

-- and none behind it
pub none_past : {A : Type 0} (xs : List A) (i : ℕ) → length xs ≤ i → slice_get xs i ≡ None
none_past [] i h = refl
none_past (x ∷ xs) zero h = absurd (omega arith)
none_past (x ∷ xs) (suc i) h = none_past xs i (omega arith)

pub place_below : {A : Type 0} (xs : List A) (i : ℕ) (x : A) → slice_get xs i ≡ Some x → i < length xs
place_below [] i x e = absurd cc
place_below (y ∷ xs) zero x e = omega arith
place_below (y ∷ xs) (suc i) x e = omega (arith, place_below xs i x e)

pub set_same : {A : Type 0} (xs : List A) (i : ℕ) (y : A) → i < length xs → slice_get (slice_set xs i y) i ≡ Some y
set_same [] i y h = absurd (omega arith)
set_same (x ∷ xs) zero y h = refl
set_same (x ∷ xs) (suc i) y h = set_same xs i y (omega arith)

pub set_other : {A : Type 0} (xs : List A) (i j : ℕ) (y : A) → j ≢ i → slice_get (slice_set xs i y) j ≡ slice_get xs j
set_other [] i j y ne = refl
set_other (x ∷ xs) zero zero y ne = absurd (ne refl)
set_other (x ∷ xs) zero (suc j) y ne = refl
set_other (x ∷ xs) (suc i) zero y ne = refl
set_other (x ∷ xs) (suc i) (suc j) y ne = set_other xs i j y (λ e. ne (ap suc e))

pub changed_there : {A : Type 0} (xs : List A) (i : ℕ) (f : A → A) (x : A) → slice_get xs i ≡ Some x → changed xs i f (slice_get xs i) ≡ slice_set xs i (f x)
changed_there xs i f x e = ap (λ o. changed xs i f o) e

pub changed_nowhere : {A : Type 0} (xs : List A) (i : ℕ) (f : A → A) → length xs ≤ i → changed xs i f (slice_get xs i) ≡ xs
changed_nowhere xs i f h = ap (λ o. changed xs i f o) (none_past xs i h)

pub length-changed : {A : Type 0} (xs : List A) (i : ℕ) (f : A → A) (o : Option A) → length (changed xs i f o) ≡ length xs
length-changed xs i f None = refl
length-changed xs i f (Some x) = length-set xs i (f x)

-- behind a list stands the item that was put there
pub last_item : {A : Type 0} (xs : List A) (x : A) → slice_get (xs ++ x ∷ []) (length xs) ≡ Some x
last_item [] x = refl
last_item (y ∷ xs) x = last_item xs x

pub front_item : {A : Type 0} (xs : List A) (x : A) (i : ℕ) → i < length xs → slice_get (xs ++ x ∷ []) i ≡ slice_get xs i
front_item [] x i h = absurd (omega arith)
front_item (y ∷ xs) x zero h = refl
front_item (y ∷ xs) x (suc i) h = front_item xs x i (omega arith)

-- a part that is there stays as it is where a list grows
pub range_stays : {X : Type 0} (xs ys : List X) (i j : ℕ) → i ≤ j → j ≤ length xs → slice_range (xs ++ ys) i j ≡ slice_range xs i j
range_stays xs ys i j h k =
    ap (λ zs. take (j - i) zs) (drop-append-le i xs ys (omega arith))
    ∙ take-append-le (j - i) (drop i xs) ys (omega (arith, length-drop i xs))

-- the part behind a list is what it grew by
pub range_behind : {X : Type 0} (xs ys : List X) (i j : ℕ) → i ≡ length xs → j ≡ length xs + length ys → slice_range (xs ++ ys) i j ≡ ys
range_behind xs ys i j h k =
    ap (λ zs. take (j - i) zs) (drop_at xs ys i (sym h)) ∙ take_all (j - i) ys (omega arith)
