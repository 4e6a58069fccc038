-- What is known of the chains of some rows.
use Rattle.std.specs.Prelude.{◌≡◌, ℕ, List, [], ◌∷◌, map, Option, Some, None}
use Rattle.boc_why.specs.declared.links.Link.{Link}
use Rattle.boc_why.specs.declared.links.Link.TheVariants.{Hands}
use Rattle.boc_why.specs.declared.shares.Share.{Share}
use Rattle.boc_why.specs.declared.why.Why.{Why}
use Rattle.boc_why.specs.Shares.{weights_of}
use Rattle.boc_why.specs.WhySteps.{AreSharesByLink}
use Rattle.boc_remedies.specs.declared.chain.Route.{Route}
use Rattle.boc_remedies.specs.declared.greedy_why.GreedyWhy.{GreedyWhy}
use Rattle.boc_remedies.specs.Families.{families_of}
use Rattle.boc_remedies.specs.GreedyWhys.{greedy_weights}

-- what leads on from each step of a chain, and its shares: by def, by link, and by the families of the cowns that a link hands on
pub record Known : Type 0 where
  pub links : List Link
  pub by_def : List Share
  pub by_link : List Share
  pub by_set : List Share

abbrev pub known : Route → Known
known route = record { links = route.links.now; by_def = route.by_def.now; by_link = route.by_link.now; by_set = route.by_set.items }

-- a link with families in place of its cowns, where each cown belongs to the family at its place
abbrev pub family_link : List ℕ → Link → Link
family_link families (Hands cowns) = Hands (record { items = families_of families cowns.items })
family_link families link = link

-- the shares of a chain by the families of the cowns that its links hand on, whose steps have these weights
abbrev pub AreSharesBySet : List ℕ → List Link → List ℕ → List Share → Type 0
AreSharesBySet families links weights shares = AreSharesByLink (map (family_link families) links) weights shares

-- what is known of a chain with these links and weights, and these shares by def and by link
pub record IsKnown (families : List ℕ) (links : List Link) (weights : List ℕ) (by_def by_link : List Share) (chain : Known) : Type 0 where
  pub links_are : chain.links ≡ links
  pub by_def_are : chain.by_def ≡ by_def
  pub by_link_are : chain.by_link ≡ by_link
  pub by_set_are : AreSharesBySet families links weights chain.by_set

-- what is known of the chain of the earliest plan
abbrev pub IsKnownOf : List ℕ → Why → Known → Type 0
IsKnownOf families why chain =
    IsKnown families why.links.items (weights_of why.profile.chain.steps.items) why.by_def.items why.by_link.items chain

-- and of that of the greedy plan
abbrev pub IsKnownOfGreedy : List ℕ → GreedyWhy → Known → Type 0
IsKnownOfGreedy families why chain = IsKnown families why.links.items (greedy_weights why.steps.items) why.by_def.items why.by_link.items chain

-- the chain of the earliest plan, and that of the greedy one, where there is one
abbrev pub AreChains : List ℕ → Why → Option GreedyWhy → List Known → Type 0
AreChains families why None chains = (first : Known) × (chains ≡ first ∷ []) × IsKnownOf families why first
AreChains families why (Some greedy) chains =
    (first : Known) × (second : Known) × (chains ≡ first ∷ second ∷ []) × IsKnownOf families why first × IsKnownOfGreedy families greedy second
