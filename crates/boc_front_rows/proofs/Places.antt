-- Lists that grow by one item, read by their places.
use Rattle.std.proofs.Common.{◌≡◌, ◌⊎◌, ℕ, zero, suc, ◌+◌, ◌<◌, inl, inr, List, [], ◌∷◌, ◌++◌, length, refl, sym, ◌∙◌, ap, subst, arith, length-append}
use Rattle.std.specs.Prelude.{slice_get, Some, None}
use Rattle.std.specs.List.{Contains}
use Rattle.std.proofs.lemmas.Bool.{cases_lt}
use Rattle.boc_program.proofs.ChangedItems.{front_item, last_item, place_below}
use Rattle.boc_program.proofs.RisingNumbers.{has_first, has_later, first_or_later, none_in_none}

-- an item of a list with one more is old or the last
pub read_pushed : {A : Type 0} (xs : List A) (x : A) (k : ℕ) (y : A) → slice_get (xs ++ (x ∷ [])) k ≡ Some y
    → ((k < length xs) × (slice_get xs k ≡ Some y)) ⊎ ((k ≡ length xs) × (x ≡ y))
read_pushed xs x k y e =
    elim (cases_lt k (length xs)) [
      | inl l ↦ inl (l, sym (front_item xs x k l) ∙ e)
      | inr ge ↦
          let q : k ≡ length xs = omega (arith, ge, place_below (xs ++ (x ∷ [])) k y e, length-append xs (x ∷ [])) in
          inr (q, let g : Some x ≡ Some y = sym (last_item xs x) ∙ ap (slice_get (xs ++ (x ∷ []))) (sym q) ∙ e in cc)
    ]

-- what a list with one more has
pub has_old : {A : Type 0} (xs : List A) (x y : A) → Contains xs y → Contains (xs ++ (x ∷ [])) y
has_old [] x y h = absurd (none_in_none y h)
has_old (z ∷ xs) x y h =
    elim (first_or_later z y xs h) [
      | inl e ↦ has_at e
      | inr later ↦ has_later z y (xs ++ (x ∷ [])) (has_old xs x y later)
    ]
  where
    has_at : z ≡ y → Contains (z ∷ (xs ++ (x ∷ []))) y
    has_at e = subst (λ w. Contains (z ∷ (xs ++ (x ∷ []))) w) e (has_first z (xs ++ (x ∷ [])))

pub has_last : {A : Type 0} (xs : List A) (x : A) → Contains (xs ++ (x ∷ [])) x
has_last [] x = has_first x []
has_last (z ∷ xs) x = has_later z x (xs ++ (x ∷ [])) (has_last xs x)

pub old_or_last : {A : Type 0} (xs : List A) (x y : A) → Contains (xs ++ (x ∷ [])) y → Contains xs y ⊎ (x ≡ y)
old_or_last [] x y h = elim (first_or_later x y [] h) [
  | inl e ↦ inr e
  | inr later ↦ absurd (none_in_none y later)
]
old_or_last (z ∷ xs) x y h = elim (first_or_later z y (xs ++ (x ∷ [])) h) [
  | inl e ↦ inl (subst (λ w. Contains (z ∷ xs) w) e (has_first z xs))
  | inr later ↦ elim (old_or_last xs x y later) [
    | inl old ↦ inl (has_later z y xs old)
    | inr e ↦ inr e
  ]
]
