-- What stands at a place of a list, also once one more stands at its end.
use Rattle.std.proofs.Common.{◌≡◌, ℕ, ◌<◌, ◌≤◌, List, [], ◌∷◌, ◌++◌, length, get_or, arith, sym, ap, ◌∙◌, ⊎_elim, ◌⊎◌, inl, inr, refl, Some}
use Rattle.std.specs.Prelude.{slice_get}
use Rattle.std.specs.List.{Contains}
use Rattle.std.proofs.lemmas.Bool.{cases_lt}
use Rattle.std.proofs.lemmas.List.{length_push, get_or_push, get_or_append_left}
use Rattle.std.proofs.lemmas.Option.{slice_get_within, slice_get-get_or, get_or_from_slice_get}

module _ {X : Type 0} (xs : List X) (y : X) where
  pub pushed_cases : (k : ℕ) (z : X) → slice_get (xs ++ y ∷ []) k ≡ Some z → ((k < length xs) × (slice_get xs k ≡ Some z)) ⊎ ((k ≡ length xs) × (y ≡ z))
  pushed_cases k z e =
      let is : get_or (xs ++ y ∷ []) k z ≡ z = get_or_from_slice_get (xs ++ y ∷ []) k z z e in
      let there : k < length (xs ++ y ∷ []) = slice_get_within (xs ++ y ∷ []) k z e in
      ⊎_elim
      (λ (l : k < length xs). inl (l, slice_get-get_or xs k z l ∙ ap (λ w. Some w) (sym (get_or_append_left xs (y ∷ []) z k l) ∙ is)))
      (λ (g : length xs ≤ k).
      let last : k ≡ length xs = omega (arith, there, length_push xs y) in
      inr (last, sym (get_or_push xs y z k (sym last)) ∙ is))
      (cases_lt k (length xs))

  pub pushed_kept : (k : ℕ) (z : X) → slice_get xs k ≡ Some z → slice_get (xs ++ y ∷ []) k ≡ Some z
  pushed_kept k z e =
      let there : k < length xs = slice_get_within xs k z e in
      slice_get-get_or (xs ++ y ∷ []) k z (omega (arith, there, length_push xs y))
      ∙ ap (λ w. Some w) (get_or_append_left xs (y ∷ []) z k there ∙ get_or_from_slice_get xs k z z e)

  pub pushed_last : slice_get (xs ++ y ∷ []) (length xs) ≡ Some y
  pushed_last = slice_get-get_or (xs ++ y ∷ []) (length xs) y (omega (arith, length_push xs y)) ∙ ap (λ w. Some w) (get_or_push xs y y (length xs) refl)

pub contains_from_place : {X : Type 0} (xs : List X) (k : ℕ) (x : X) → slice_get xs k ≡ Some x → Contains xs x
contains_from_place xs k x e = (k, slice_get_within xs k x e, get_or_from_slice_get xs k x x e)

pub place_from_contains : {X : Type 0} (xs : List X) (x : X) → Contains xs x → (k : ℕ) × (slice_get xs k ≡ Some x)
place_from_contains xs x (k, h, e) = (k, slice_get-get_or xs k x h ∙ ap (λ w. Some w) e)
