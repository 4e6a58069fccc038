-- How a chain is told: a line for each of its steps, or the steps of one def that follow each other in one line.
use Rattle.std.specs.Prelude.{◌==◌, ℕ, zero, suc, Bool, true, false, cond, nat_lt, List, [], ◌∷◌, ◌++◌, length, map, filter, flat_map, take, Option, Some, None}
use Rattle.std.specs.Prelude.{slice_index, slice_index_or, codes, decimal}
use Rattle.std.specs.List.{count_by, list_all, list_any}
use Rattle.boc_plans.specs.declared.chain.ChainStep.{ChainStep}
use Rattle.boc_plans.specs.Chains.{weight_of}
use Rattle.boc_table.specs.declared.side.Side.{Side}
use Rattle.boc_table.specs.declared.side.Side.TheVariants.{Left, Right}
use Rattle.boc_table.specs.Tables.{table_text}
use Rattle.boc_names.specs.declared.names.Names.{Names}
use Rattle.boc_names.specs.Names.{Text, separated, text_at, texts_of}
use Rattle.boc_names.specs.Stretches.{stretches}
use Rattle.boc_why.specs.declared.links.Link.{Link}
use Rattle.boc_why.specs.declared.links.Link.TheVariants.{SpawnBy, Hands, Frees, Ends}
use Rattle.boc_why.specs.declared.why.Why.{Why}
use Rattle.boc_why.specs.Shares.{def_of}

-- ---- names

-- cowns behind others, by their names
abbrev pub more_handed : List Text → List ℕ → Text
more_handed names [] = []
more_handed names (c ∷ cowns) = codes " and " ++ text_at names c ++ more_handed names cowns

-- cowns that are handed on, by their names
abbrev pub handed_text : List Text → List ℕ → Text
handed_text names [] = []
handed_text names (c ∷ cowns) = text_at names c ++ more_handed names cowns

-- what a link is called
abbrev pub link_text : Names → Link → Text
link_text names (SpawnBy def) = codes "spawn by " ++ text_at (texts_of names.def_names.items) def
link_text names (Hands cowns) = handed_text (texts_of names.cowns.items) cowns.items
link_text names Frees = codes "worker"
link_text names Ends = codes "end"

-- ---- the chain

-- what a row of a chain does before the next one goes on
abbrev pub then_text : Names → Link → Option ChainStep → Text
then_text names (SpawnBy def) (Some next) = codes "spawns row " ++ decimal next.row
then_text names (Hands cowns) (Some next) = codes "hands " ++ handed_text (texts_of names.cowns.items) cowns.items ++ codes " to row " ++ decimal next.row
then_text names Frees next = []
then_text names Ends next = codes "ends"
then_text names link None = []

-- the first of some steps
abbrev pub first_step : List ChainStep → Option ChainStep
first_step [] = None
first_step (s ∷ steps) = Some s

-- the texts of a step's line: the tick at which its row starts, how many ticks go by until the next row goes on, the row's number, what it is called,
-- and what it does then
abbrev pub step_texts : Names → List ℕ → ChainStep → Link → Option ChainStep → List Text
step_texts names starts s link next =
    [] ∷ decimal (slice_index starts s.row) ∷ decimal s.weight ∷ decimal s.row ∷ text_at (texts_of names.rows.items) s.row ∷ then_text names link next ∷ []

-- a step of a chain with what leads on from it, and the step behind it
pub record Leg : Type 0 where
  pub step : ChainStep
  pub link : Link
  pub next : Option ChainStep

-- the legs of a chain
abbrev pub legs : List ChainStep → List Link → List Leg
legs [] links = []
legs (s ∷ steps) [] = []
legs (s ∷ steps) (link ∷ links) = record { step = s; link = link; next = first_step steps } ∷ legs steps links

-- the texts of a leg's line
abbrev pub leg_texts : Names → List ℕ → Leg → List Text
leg_texts names starts leg = step_texts names starts leg.step leg.link leg.next

-- the lines of a chain's steps
abbrev pub step_lines : Names → List ℕ → List ChainStep → List Link → List (List Text)
step_lines names starts steps links = map (leg_texts names starts) (legs steps links)

-- the sides of a chain's columns, of which the first is a margin
abbrev pub chain_sides : List Side
chain_sides = Left ∷ Right ∷ Right ∷ Right ∷ Left ∷ Left ∷ []

-- what stands above a chain's columns
abbrev pub chain_head : List Text
chain_head = [] ∷ codes "tick" ∷ codes "ticks" ∷ codes "row" ∷ codes "behaviour" ∷ codes "then" ∷ []

-- the tick at which all is over
abbrev pub chain_foot : ℕ → List Text
chain_foot span = [] ∷ decimal span ∷ [] ∷ [] ∷ [] ∷ [] ∷ []

-- the lines of a chain: what stands above its columns, a line for each step, and the tick at which all is over
abbrev pub chain_lines : Names → Why → List (List Text)
chain_lines names why =
    chain_head ∷ step_lines names why.profile.starts.items why.profile.chain.steps.items why.links.items ++ chain_foot why.profile.span ∷ []

-- the chain, a line for each step
abbrev pub chain_text : Names → Why → Text
chain_text names why = codes "chain\n" ++ table_text chain_sides (chain_lines names why)

-- ---- the chain, folded

-- the rows of two legs are of one def
abbrev pub are_of_one_def : List ℕ → Leg → Leg → Bool
are_of_one_def defs a b = def_of defs a.step.row == def_of defs b.step.row

-- a link is a spawn
abbrev pub is_spawn : Link → Bool
is_spawn (SpawnBy def) = true
is_spawn (Hands cowns) = false
is_spawn Frees = false
is_spawn Ends = false

-- a link hands cowns on
abbrev pub is_hand : Link → Bool
is_hand (SpawnBy def) = false
is_hand (Hands cowns) = true
is_hand Frees = false
is_hand Ends = false

-- a link hands on this cown too, if it hands on any
abbrev pub hands_too : ℕ → Link → Bool
hands_too c (SpawnBy def) = true
hands_too c (Hands cowns) = list_any (λ other. other == c) cowns.items
hands_too c Frees = true
hands_too c Ends = true

-- The cowns that some links hand on in common, those links left out that hand on none: the cowns of the first that hands on some, as far as each link
-- behind it hands them on too.
abbrev pub common : List Link → List ℕ
common [] = []
common (SpawnBy def ∷ links) = common links
common (Hands cowns ∷ links) = filter (λ c. list_all (hands_too c) links) cowns.items
common (Frees ∷ links) = common links
common (Ends ∷ links) = common links

-- cowns by their names, behind a blank; nothing where there is none
abbrev pub behind_blank : List Text → List ℕ → Text
behind_blank names [] = []
behind_blank names (c ∷ cowns) = codes " " ++ handed_text names (c ∷ cowns)

-- how many rows hand on, and what all of them do
abbrev pub hands_texts : ℕ → Text → List Text
hands_texts zero cowns = []
hands_texts (suc n) cowns = (decimal (suc n) ++ codes " hand on" ++ cowns) ∷ []

-- how many rows spawn the next one
abbrev pub spawns_texts : ℕ → List Text
spawns_texts zero = []
spawns_texts (suc n) = (decimal (suc n) ++ codes " spawn the next") ∷ []

-- what some rows do, each before the next one of them goes on
abbrev pub inner_text : Names → List Link → Text
inner_text names links =
    separated (hands_texts (count_by is_hand links) (behind_blank (texts_of names.cowns.items) (common links)) ++ spawns_texts (count_by is_spawn links))

-- the last of some legs
abbrev pub last_leg : Leg → List Leg → Leg
last_leg first others = slice_index_or (first ∷ others) (length others) first

-- the legs before the last one
abbrev pub before_last : Leg → List Leg → List Leg
before_last first others = take (length others) (first ∷ others)

-- what the rows of a stretch do: those before the last, and the last
abbrev pub stretch_then : Names → List Link → Link → Option ChainStep → Text
stretch_then names inner last next = inner_text names inner ++ codes "; the last " ++ then_text names last next

-- the numbers of the first row of a stretch and of the last
abbrev pub rows_text : ℕ → ℕ → Text
rows_text first last = decimal first ++ codes ".." ++ decimal last

-- how many rows there are, and of which def
abbrev pub behaviours_text : Names → ℕ → ℕ → Text
behaviours_text names count row = decimal count ++ codes " " ++ text_at (texts_of names.def_names.items) (def_of names.defs.items row)

-- The texts of the line of a stretch: the tick at which its first row starts, how many ticks go by until the row behind it goes on, the numbers of the first
-- and the last row, how many rows of which def there are, and what they do then.
abbrev pub stretch_texts : Names → List ℕ → List Leg → List Text
stretch_texts names starts [] = []
stretch_texts names starts (first ∷ others) =
    let last = last_leg first others in
    let stretch = first ∷ others in
    [] ∷ decimal (slice_index starts first.step.row) ∷ decimal (weight_of (map (λ leg. leg.step) stretch)) ∷ rows_text first.step.row last.step.row
    ∷ behaviours_text names (length stretch) first.step.row
    ∷ stretch_then names (map (λ leg. leg.link) (before_last first others)) last.link last.next ∷ []

-- the lines of a stretch: one, where it has four legs or more, and else one for each
abbrev pub stretch_lines : Names → List ℕ → List Leg → List (List Text)
stretch_lines names starts stretch =
    cond (nat_lt (length stretch) 4) (map (leg_texts names starts) stretch) (stretch_texts names starts stretch ∷ [])

-- the lines of a chain's legs, folded: stretch by stretch, in each of which the rows are of one def
abbrev pub folded_legs : Names → List ℕ → List Leg → List (List Text)
folded_legs names starts all = flat_map (stretch_lines names starts) (stretches (are_of_one_def names.defs.items) all)

-- the lines of a chain, folded
abbrev pub folded_lines : Names → Why → List (List Text)
folded_lines names why =
    chain_head ∷ folded_legs names why.profile.starts.items (legs why.profile.chain.steps.items why.links.items) ++ chain_foot why.profile.span ∷ []

-- the chain, folded
abbrev pub folded_text : Names → Why → Text
folded_text names why = codes "chain\n" ++ table_text chain_sides (folded_lines names why)

-- the chain: all of its lines, or folded
abbrev pub told_chain : Names → Bool → Why → Text
told_chain names all why = cond all (chain_text names why) (folded_text names why)
