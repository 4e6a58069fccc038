-- Loops that gather: a step of each.
use Rattle.std.proofs.Common.{◌≡◌, ◌+◌, ◌<◌, ℕ, List, [], ◌∷◌, ◌++◌, length, take, get_or, ap, refl, sym, ◌∙◌, Option, Some, None, append-nil}
use Rattle.std.specs.Prelude.{filter_map, flat_map, option_to_list}
use Rattle.std.specs.List.{fold}
use Rattle.std.proofs.lemmas.List.{take_more}
use Rattle.std.proofs.lemmas.List.Elements.{filter_map-append}
use Rattle.std.proofs.lemmas.List.Sums.{fold-append}
use Rattle.std.proofs.lemmas.Grind.{flat_map-append}

-- one more element
pub take_one : {A : Type 0} (xs : List A) (i : ℕ) (d x : A) → i < length xs → x ≡ get_or xs i d → take (i + 1) xs ≡ take i xs ++ x ∷ []
take_one xs i d x low at = take_more xs i d low ∙ ap (λ y. take i xs ++ y ∷ []) (sym at)

-- what one more gives, if it gives any
pub filter_map_one : {A B : Type 0} (h : A → Option B) (xs : List A) (i : ℕ) (d x : A) → i < length xs → x ≡ get_or xs i d
    → filter_map h (take (i + 1) xs) ≡ filter_map h (take i xs) ++ option_to_list (h x)
filter_map_one {A} {B} h xs i d x low at =
    ap (filter_map h) (take_one xs i d x low at) ∙ filter_map-append h (take i xs) (x ∷ []) ∙ ap (λ ys. filter_map h (take i xs) ++ ys) (one (h x) refl)
  where
    one : (got : Option B) → h x ≡ got → filter_map h (x ∷ []) ≡ option_to_list (h x)
    one None e = rw e refl
    one (Some y) e = rw e refl

-- a loop that appends what each gives, if it gives any
pub filter_map_step : {A B : Type 0} (h : A → Option B) (xs : List A) (i : ℕ) (d x : A) (got : Option B) (acc after : List B) → i < length xs
    → x ≡ get_or xs i d → got ≡ h x → acc ≡ filter_map h (take i xs) → after ≡ acc ++ option_to_list got → after ≡ filter_map h (take (i + 1) xs)
filter_map_step h xs i d x got acc after low at own so step =
    step ∙ ap (λ o. acc ++ option_to_list o) own ∙ ap (λ ys. ys ++ option_to_list (h x)) so ∙ sym (filter_map_one h xs i d x low at)

-- a fold over what each gives, if it gives any
pub fold_filter_map_step : {A B D : Type 0} (f : D → B → D) (a : D) (h : A → Option B) (xs : List A) (i : ℕ) (d x : A) (got : Option B) (acc after : D)
    → i < length xs → x ≡ get_or xs i d → got ≡ h x → acc ≡ fold f a (filter_map h (take i xs)) → after ≡ fold f acc (option_to_list got)
    → after ≡ fold f a (filter_map h (take (i + 1) xs))
fold_filter_map_step f a h xs i d x got acc after low at own so step =
    step ∙ ap (λ o. fold f acc (option_to_list o)) own ∙ ap (λ b. fold f b (option_to_list (h x))) so
    ∙ sym (fold-append f a (filter_map h (take i xs)) (option_to_list (h x))) ∙ ap (fold f a) (sym (filter_map_one h xs i d x low at))

-- all that one more gives
pub flat_map_one : {A C : Type 0} (g : A → List C) (xs : List A) (i : ℕ) (d x : A) → i < length xs → x ≡ get_or xs i d
    → flat_map g (take (i + 1) xs) ≡ flat_map g (take i xs) ++ g x
flat_map_one g xs i d x low at =
    ap (flat_map g) (take_one xs i d x low at) ∙ flat_map-append g (take i xs) (x ∷ []) ∙ ap (λ ys. flat_map g (take i xs) ++ ys) (append-nil (g x))

-- a fold over all that each gives
pub fold_flat_map_step : {A C D : Type 0} (f : D → C → D) (a : D) (g : A → List C) (xs : List A) (i : ℕ) (d x : A) (got : List C) (acc after : D)
    → i < length xs → x ≡ get_or xs i d → got ≡ g x → acc ≡ fold f a (flat_map g (take i xs)) → after ≡ fold f acc got
    → after ≡ fold f a (flat_map g (take (i + 1) xs))
fold_flat_map_step f a g xs i d x got acc after low at own so step =
    step ∙ ap (fold f acc) own ∙ ap (λ b. fold f b (g x)) so ∙ sym (fold-append f a (flat_map g (take i xs)) (g x))
    ∙ ap (fold f a) (sym (flat_map_one g xs i d x low at))
