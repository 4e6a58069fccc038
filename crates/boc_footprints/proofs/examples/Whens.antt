-- What a small body names and spawns.
use Rattle.std.proofs.Common.{◌≡◌, ℕ, List, [], ◌∷◌, refl, Bool, true, false, pos, negsuc}
use Rattle.std.specs.List.{filter}
use Rattle.boc_program.specs.Syntax.{Code, Slot, Number, Held, Single, Member, Done, If, Repeat, When}
use Rattle.boc_footprints.specs.declared.spreading.Spawn.{Spawn}
use Rattle.boc_footprints.specs.Whens.{names, spawns}
use Rattle.boc_footprints.specs.Spreading.{after_spawns}
use Rattle.boc_footprints.specs.Tables.{reaches}

-- `if x { when one(; c); } else { repeat 2 { when two(; a[x]); } } when three(; b[1], mine);`, where c is cown 3, and a and b are of cowns 4 to 6 and of 8 and 9
abbrev body : Code
body =
    If (Slot 0) (When 1 [] (Single 3 ∷ []) Done) (Repeat (Number (pos 2)) (When 2 [] (Member 4 3 (Slot 0) ∷ []) Done) Done)
    (When 3 [] (Member 8 2 (Number (pos 1)) ∷ Held 0 ∷ []) Done)

abbrev numbers : List ℕ
numbers = 0 ∷ 1 ∷ 2 ∷ 3 ∷ 4 ∷ 5 ∷ 6 ∷ 7 ∷ 8 ∷ 9 ∷ 10 ∷ []

-- both blocks of an if, the block of a repeat, all members where the index is no number, and no parameter
named : filter (λ c. names c body) numbers ≡ 3 ∷ 4 ∷ 5 ∷ 6 ∷ 9 ∷ []
named = refl

spawned : filter (λ kind. spawns kind body) numbers ≡ 1 ∷ 2 ∷ 3 ∷ []
spawned = refl

-- an index that is out of range names no cown
none_named : filter (λ c. names c (When 1 [] (Member 4 3 (Number (pos 3)) ∷ Member 4 3 (Number (negsuc 0)) ∷ []) Done)) numbers ≡ []
none_named = refl

abbrev spawn : ℕ → ℕ → Spawn
spawn kind other = record { kind = kind; other = other }

-- 0 spawns 1, 1 spawns 2, and 3 spawns itself: after one round 1 is marked, after two 0 is marked too
abbrev all : List Spawn
all = spawn 0 1 ∷ spawn 1 2 ∷ spawn 3 3 ∷ []

one_round : after_spawns (false ∷ false ∷ true ∷ false ∷ []) all ≡ false ∷ true ∷ true ∷ false ∷ []
one_round = refl

two_rounds : after_spawns (false ∷ true ∷ true ∷ false ∷ []) all ≡ true ∷ true ∷ true ∷ false ∷ []
two_rounds = refl

-- two cowns, of which kinds 1 and 2 reach the first, and kind 0 the second
abbrev table : List (List Bool)
table = (false ∷ true ∷ true ∷ []) ∷ (true ∷ false ∷ false ∷ []) ∷ []

of_the_second : filter (λ kind. reaches table kind 1) numbers ≡ 0 ∷ []
of_the_second = refl

of_no_cown : filter (λ kind. reaches table kind 2) numbers ≡ []
of_no_cown = refl
