-- The definition of a chain's lines tried on a chain of two rows.
use Rattle.std.proofs.Common.{◌≡◌, ◌++◌, List, [], ◌∷◌, codes}
use Rattle.std.specs.Fmt.{digits}
use Rattle.boc_plans.specs.declared.chain.ChainStep.{ChainStep}
use Rattle.boc_plans.specs.declared.chain.Via.TheVariants.{Spawn, Last}
use Rattle.boc_why.specs.declared.links.Link.{Link}
use Rattle.boc_why.specs.declared.links.Link.TheVariants.{SpawnBy, Ends}
use Rattle.boc_names.specs.declared.names.Names.{Names}
use Rattle.boc_names.specs.Names.{texts_of}
use Rattle.boc_table.specs.Tables.{table_text}
use Rattle.boc_why_report.specs.ChainTexts.{chain_foot, chain_head, chain_sides, step_lines}

-- main spawns row 1 after 3 ticks, which goes on for 6
abbrev steps : List ChainStep
steps = record { row = 0; via = Spawn; weight = 3 } ∷ record { row = 1; via = Last; weight = 6 } ∷ []

abbrev links : List Link
links = SpawnBy 0 ∷ Ends ∷ []

pub text_of_chain : (names : Names) → texts_of names.rows.items ≡ codes "main" ∷ codes "serve(; a)" ∷ []
    → table_text chain_sides (chain_head ∷ step_lines names (0 ∷ 3 ∷ []) steps links ++ chain_foot 9 ∷ [])
    ≡ codes "  tick  ticks  row  behaviour   then\n     0      3    0  main        spawns row 1\n     3      6    1  serve(; a)  ends\n     9\n"
unfolding digits
text_of_chain names rows = rw rows
