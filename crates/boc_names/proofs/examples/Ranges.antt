-- The text of a behaviour's cowns tried on a bank, and on cowns that must not be put together.
use Rattle.std.proofs.Common.{◌≡◌, ◌∙◌, Bool, true, false, List, [], ◌∷◌, None, Some, pos, flat_map, refl, codes, ap}
use Rattle.std.specs.Fmt.{digits}
use Rattle.std.specs.Prelude.{cond}
use Rattle.boc_names.specs.Names.{NamedCowns, call_text, held_text, named_cowns}
use Rattle.boc_names.specs.Stretches.{at_front, stretches}

-- seven accounts, a log, two more of another array
abbrev bank : NamedCowns
bank = named_cowns (
    record { name = codes "acct"; size = Some 7; initial = pos 0 } ∷ record { name = codes "log"; size = None; initial = pos 0 }
    ∷ record { name = codes "a"; size = Some 2; initial = pos 0 } ∷ record { name = codes "b"; size = Some 3; initial = pos 0 } ∷ []
    )

six_and_another : call_text (codes "audit") bank [] (0 ∷ 1 ∷ 2 ∷ 3 ∷ 4 ∷ 5 ∷ 7 ∷ []) ≡ codes "audit(; acct[0..5], log)"
unfolding digits
six_and_another = refl

three_behind_another : call_text (codes "move") bank (pos 3 ∷ []) (7 ∷ 4 ∷ 5 ∷ 6 ∷ []) ≡ codes "move(3; log, acct[4..6])"
unfolding digits
three_behind_another = refl

-- two stand one by one
two : held_text bank (0 ∷ 1 ∷ 7 ∷ []) ≡ codes " acct[0], acct[1], log"
unfolding digits
two = refl

-- so do members whose numbers fall, or leave one out, or stand apart
falling : held_text bank (2 ∷ 1 ∷ 0 ∷ []) ≡ codes " acct[2], acct[1], acct[0]"
unfolding digits
falling = refl

gap : held_text bank (0 ∷ 1 ∷ 3 ∷ []) ≡ codes " acct[0], acct[1], acct[3]"
unfolding digits
gap = refl

apart : held_text bank (0 ∷ 7 ∷ 1 ∷ 2 ∷ []) ≡ codes " acct[0], log, acct[1], acct[2]"
unfolding digits
apart = refl

-- cowns of two arrays don't follow each other, though their numbers do
two_arrays : held_text bank (9 ∷ 10 ∷ 11 ∷ []) ≡ codes " a[1], b[0], b[1]"
unfolding digits
two_arrays = refl

next_array : held_text bank (8 ∷ 9 ∷ 10 ∷ 11 ∷ 12 ∷ []) ≡ codes " a[0], a[1], b[0..2]"
unfolding digits
next_array = refl

none : held_text bank [] ≡ []
none = refl

abbrev one_by_one : {A : Type 0} → List (List A) → List A
one_by_one all = flat_map (λ stretch. stretch) all

at_its_front : {A : Type 0} (x : A) (all : List (List A)) → one_by_one (at_front x all) ≡ x ∷ one_by_one all
at_its_front x [] = refl
at_its_front x (stretch ∷ others) = refl

in_either : {A : Type 0} (x : A) (xs : List A) (next : List (List A)) (goes : Bool) → one_by_one next ≡ xs
    → one_by_one (cond goes (at_front x next) ((x ∷ []) ∷ next)) ≡ x ∷ xs
in_either {A} x xs next true all = at_its_front x next ∙ ap (λ (rest : List A). x ∷ rest) all
in_either {A} x xs next false all = ap (λ (rest : List A). x ∷ rest) all

-- the stretches of a list, one after the other, are the list
whole : {A : Type 0} (goes_on : A → A → Bool) (xs : List A) → one_by_one (stretches goes_on xs) ≡ xs
whole goes_on [] = refl
whole goes_on (x ∷ []) = refl
whole goes_on (x ∷ y ∷ rest) = in_either x (y ∷ rest) (stretches goes_on (y ∷ rest)) (goes_on x y) (whole goes_on (y ∷ rest))
