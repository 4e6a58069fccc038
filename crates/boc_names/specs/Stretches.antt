-- The things of a list that follow each other, in stretches.
use Rattle.std.specs.Prelude.{Bool, cond, List, [], ◌∷◌}

-- a thing at the front of the first of some stretches
abbrev pub at_front : {A : Type 0} → A → List (List A) → List (List A)
at_front a [] = (a ∷ []) ∷ []
at_front a (stretch ∷ others) = (a ∷ stretch) ∷ others

-- The stretches of a list, in each of which every thing goes on from the one before it: a thing stands in one stretch with the next one where that goes on
-- from it, and else the next one begins another stretch.
abbrev pub stretches : {A : Type 0} → (A → A → Bool) → List A → List (List A)
stretches goes_on [] = []
stretches goes_on (a ∷ []) = (a ∷ []) ∷ []
stretches goes_on (a ∷ b ∷ others) =
    cond (goes_on a b) (at_front a (stretches goes_on (b ∷ others))) ((a ∷ []) ∷ stretches goes_on (b ∷ others))
