-- What is tried for some chains.
use Rattle.std.specs.Prelude.{◌==◌, ◌++◌, ℕ, List, [], ◌∷◌, length, map, filter, filter_map, flat_map, take, cond, nat_lt, Option, Some, None, slice_get}
use Rattle.std.specs.List.{fold, list_any}
use Rattle.boc_why.specs.declared.links.Link.{Link}
use Rattle.boc_why.specs.declared.links.Link.TheVariants.{SpawnBy, Hands}
use Rattle.boc_remedies.specs.declared.remedy.Remedy.{Remedy}
use Rattle.boc_remedies.specs.declared.remedy.Remedy.TheVariants.{HalfCost, NoOrder, EarlySpawns}
use Rattle.boc_remedies.specs.declared.tried.TheConstants.{MOST_TRIED}
use Rattle.boc_remedies.specs.Chains.{Known}
use Rattle.boc_remedies.specs.Families.{is_same_set, joined}
use Rattle.boc_remedies.specs.LinkSets.{link_sets}

-- ---- each once

-- the numbers, and after them one more, unless it is among them
abbrev pub added : List ℕ → ℕ → List ℕ
added list number = cond (list_any (λ own. own == number) list) list (list ++ number ∷ [])

-- the same of sets
abbrev pub added_set : List (List ℕ) → List ℕ → List (List ℕ)
added_set sets set = cond (list_any (λ own. is_same_set own set) sets) sets (sets ++ set ∷ [])

-- ---- defs

-- the defs that weigh most in a chain
abbrev pub heaviest_of : Known → List ℕ
heaviest_of chain = map (λ s. s.key) (take MOST_TRIED chain.by_def)

-- the def that spawns by this link, if it is a spawn
abbrev pub spawner_of : Option Link → Option ℕ
spawner_of (Some (SpawnBy def)) = Some def
spawner_of link = None

-- the defs whose spawns weigh most in a chain
abbrev pub spawners_of : Known → List ℕ
spawners_of chain = take MOST_TRIED (filter_map (λ s. spawner_of (slice_get chain.links s.key)) chain.by_link)

-- the defs of several chains, each once, where it comes first
abbrev pub defs_of_all : (Known → List ℕ) → List Known → List ℕ
defs_of_all of chains = fold added [] (flat_map of chains)

-- ---- cowns

-- the families of the cowns that a link hands on
abbrev pub handed_by : List ℕ → Option Link → List ℕ
handed_by families (Some (Hands cowns)) = filter_map (slice_get families) cowns.items
handed_by families link = []

-- the families of the cowns that a chain hands on, for each link
abbrev pub handed_of : List ℕ → Known → List ℕ
handed_of families chain = flat_map (λ s. handed_by families (slice_get chain.links s.key)) chain.by_link

-- the families of the cowns that some chains hand on, rising
abbrev pub handed_families : List ℕ → List Known → List ℕ
handed_families families chains = joined [] (flat_map (handed_of families) chains)

-- those of some sets that have two or more families
abbrev pub of_several : List (List ℕ) → List (List ℕ)
of_several sets = filter (λ set. nat_lt 1 (length set)) sets

-- the link sets of two or more of a chain
abbrev pub several_of : List ℕ → Known → List (List ℕ)
several_of families chain = of_several (link_sets families chain.links chain.by_set)

-- the sets of cowns that are tried for some chains: each family that any hands on, and then the link sets of two or more of each, each once
abbrev pub sets_tried : List ℕ → List Known → List (List ℕ)
sets_tried families chains = fold added_set (map (λ f. f ∷ []) (handed_families families chains)) (flat_map (several_of families) chains)

-- ---- all that is tried

-- What is tried for some chains: the defs that weigh most in each at half their cost; each family that any hands on, and then the link sets of two or more of
-- each, without their order; and earlier spawns of the defs whose spawns weigh most in each. Each is tried once, where it comes first.
abbrev pub tried : List ℕ → List Known → List Remedy
tried families chains = map HalfCost (defs_of_all heaviest_of chains)
    ++ (map NoOrder (sets_tried families chains) ++ map EarlySpawns (defs_of_all spawners_of chains))
