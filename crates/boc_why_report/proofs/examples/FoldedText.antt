-- The definition of a folded chain tried on a few rows.
use Rattle.std.proofs.Common.{◌≡◌, ◌++◌, List, [], ◌∷◌, ℕ, codes, refl}
use Rattle.std.specs.Fmt.{digits}
use Rattle.boc_plans.specs.declared.chain.ChainStep.{ChainStep}
use Rattle.boc_plans.specs.declared.chain.Via.TheVariants.{Spawn, Order, Last}
use Rattle.boc_why.specs.declared.links.Link.{Link}
use Rattle.boc_why.specs.declared.links.Link.TheVariants.{SpawnBy, Hands, Ends}
use Rattle.boc_names.specs.declared.names.Names.{Names}
use Rattle.boc_names.specs.Names.{Text, texts_of}
use Rattle.boc_table.specs.Tables.{table_text}
use Rattle.boc_why_report.specs.ChainTexts.{chain_foot, chain_head, chain_sides, common, folded_legs, inner_text, legs}

-- main spawns row 1, and four rows follow each other, of which the last ends
abbrev steps : List ChainStep
steps = record { row = 0; via = Spawn; weight = 3 } ∷ record { row = 1; via = Order; weight = 6 } ∷ record { row = 2; via = Order; weight = 6 }
    ∷ record { row = 3; via = Order; weight = 7 } ∷ record { row = 5; via = Last; weight = 4 } ∷ []

abbrev a_and_b : Link
a_and_b = Hands (record { items = 0 ∷ 1 ∷ [] })

abbrev only_b : Link
only_b = Hands (record { items = 1 ∷ [] })

abbrev only_c : Link
only_c = Hands (record { items = 2 ∷ [] })

abbrev links : List Link
links = SpawnBy 0 ∷ a_and_b ∷ only_b ∷ a_and_b ∷ Ends ∷ []

abbrev starts : List ℕ
starts = 0 ∷ 3 ∷ 9 ∷ 15 ∷ 0 ∷ 22 ∷ []

-- the lines of the steps, where the rows have these defs
abbrev lines : Names → List (List Text)
lines names = chain_head ∷ folded_legs names starts (legs steps links) ++ chain_foot 26 ∷ []

-- four rows of one def stand in one line
pub four : (names : Names) → texts_of names.rows.items ≡ codes "main" ∷ [] → texts_of names.def_names.items ≡ codes "main" ∷ codes "serve" ∷ []
    → texts_of names.cowns.items ≡ codes "a" ∷ codes "b" ∷ codes "c" ∷ [] → names.defs.items ≡ 0 ∷ 1 ∷ 1 ∷ 1 ∷ 1 ∷ 1 ∷ []
    → table_text chain_sides (lines names)
    ≡ codes "  tick  ticks   row  behaviour  then\n     0      3     0  main       spawns row 1\n"
    ++ codes "     3     23  1..5  4 serve    3 hand on b; the last ends\n    26\n"
unfolding digits
four names rows def_names cowns defs = simp (defs, rows, def_names, cowns)

-- three of one def, and one of another, have lines of their own
pub three : (names : Names)
    → texts_of names.rows.items ≡ codes "main" ∷ codes "f(; a, b)" ∷ codes "f(; a, b)" ∷ codes "f(; b)" ∷ codes "g(; c)" ∷ codes "g(; a, b)" ∷ []
    → texts_of names.cowns.items ≡ codes "a" ∷ codes "b" ∷ codes "c" ∷ [] → names.defs.items ≡ 0 ∷ 1 ∷ 1 ∷ 1 ∷ 2 ∷ 2 ∷ []
    → table_text chain_sides (lines names)
    ≡ codes "  tick  ticks  row  behaviour  then\n     0      3    0  main       spawns row 1\n"
    ++ codes "     3      6    1  f(; a, b)  hands a and b to row 2\n     9      6    2  f(; a, b)  hands b to row 3\n"
    ++ codes "    15      7    3  f(; b)     hands a and b to row 5\n    22      4    5  g(; a, b)  ends\n    26\n"
unfolding digits
three names rows cowns defs = simp (defs, rows, cowns)

-- what all hand on, a spawn among them left out; and where there is no such cown
pub in_common : common (SpawnBy 1 ∷ a_and_b ∷ SpawnBy 1 ∷ only_b ∷ []) ≡ 1 ∷ []
in_common = refl

pub nothing_in_common : common (only_b ∷ only_c ∷ []) ≡ []
nothing_in_common = refl

pub some_spawn : (names : Names) → inner_text names (only_b ∷ SpawnBy 1 ∷ only_c ∷ []) ≡ codes "2 hand on, 1 spawn the next"
unfolding digits
some_spawn names = refl

pub all_spawn : (names : Names) → inner_text names (SpawnBy 1 ∷ SpawnBy 1 ∷ []) ≡ codes "2 spawn the next"
unfolding digits
all_spawn names = refl
