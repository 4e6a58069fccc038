-- How many statements the blocks of each statement have, by the statement's number.
use Rattle.std.specs.Prelude.{◌≡◌, ℕ, ◌+◌, List, [], ◌∷◌, ◌++◌, Some, slice_get}
use Rattle.boc_program.specs.declared.body.Body.{Body}
use Rattle.boc_program.specs.Syntax.{Code, Done, Assign, Work, If, Repeat, When, code_size}
use Rattle.boc_lines.specs.declared.sizes.BlockSizes.{BlockSizes}

-- what has no blocks
abbrev pub no_blocks : BlockSizes
no_blocks = record { first = 0; second = 0 }

-- the blocks of the statement with the number k have so many statements
abbrev pub IsSized : List BlockSizes → ℕ → ℕ → ℕ → Type 0
IsSized sizes k first second = slice_get sizes k ≡ Some (record { first = first; second = second })

-- the same of all statements, of which the first has the number k, as `charged` counts them
abbrev pub AreSized : List BlockSizes → Code → ℕ → Type 0
AreSized sizes Done k = Unit {0}
AreSized sizes (Assign slot e rest) k = IsSized sizes k 0 0 × AreSized sizes rest (k + 1)
AreSized sizes (Work e rest) k = IsSized sizes k 0 0 × AreSized sizes rest (k + 1)
AreSized sizes (If e block other rest) k =
    IsSized sizes k (code_size block) (code_size other) × AreSized sizes block (k + 1) × AreSized sizes other (k + 1 + code_size block)
    × AreSized sizes rest (k + 1 + code_size block + code_size other)
AreSized sizes (Repeat e block rest) k =
    IsSized sizes k (code_size block) 0 × AreSized sizes block (k + 1) × AreSized sizes rest (k + 1 + code_size block)
AreSized sizes (When kind args refs rest) k = IsSized sizes k 0 0 × AreSized sizes rest (k + 1)

-- those of statements, in the order of their numbers
abbrev pub sizes_of : Code → List BlockSizes
sizes_of Done = []
sizes_of (Assign slot e rest) = no_blocks ∷ sizes_of rest
sizes_of (Work e rest) = no_blocks ∷ sizes_of rest
sizes_of (If e block other rest) =
    (record { first = code_size block; second = code_size other }) ∷ (sizes_of block ++ (sizes_of other ++ sizes_of rest))
sizes_of (Repeat e block rest) = (record { first = code_size block; second = 0 }) ∷ (sizes_of block ++ sizes_of rest)
sizes_of (When kind args refs rest) = no_blocks ∷ sizes_of rest

-- those of bodies, each with one for its start
abbrev pub sizes_of_bodies : List Body → List BlockSizes
sizes_of_bodies [] = []
sizes_of_bodies (b ∷ bodies) = no_blocks ∷ (sizes_of b.block ++ sizes_of_bodies bodies)
