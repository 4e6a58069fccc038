-- Why a greedy plan takes as long as it does.
use Rattle.std.specs.Prelude.{◌≡◌, ℕ, suc, List, [], ◌∷◌, length, map, Option, Some, slice_get, None}
use Rattle.std.specs.List.{sum_by}
use Rattle.boc_runs.specs.declared.rows.Row.{Row}
use Rattle.boc_plans.specs.declared.chain.ChainStep.{ChainStep}
use Rattle.boc_plans.specs.declared.chain.Via.{Via}
use Rattle.boc_plans.specs.declared.chain.Via.TheVariants as vias
use Rattle.boc_plans.specs.Plans.{IsEnd}
use Rattle.boc_plans.specs.Greedy.{IsGreedy}
use Rattle.boc_order.specs.Handed.{AreHanded}
use Rattle.boc_greedy_chain.specs.declared.chain.GreedyStep.{GreedyStep}
use Rattle.boc_greedy_chain.specs.declared.chain.Tie.{Tie}
use Rattle.boc_greedy_chain.specs.declared.chain.Tie.TheVariants as ties
use Rattle.boc_greedy_chain.specs.GreedyChains.{IsGreedyChain}
use Rattle.boc_why.specs.declared.links.Link.{Link}
use Rattle.boc_why.specs.declared.links.Link.TheVariants.{SpawnBy, Hands, Frees, Ends}
use Rattle.boc_why.specs.Shares.{AreShares, def_of}
use Rattle.boc_why.specs.WhySteps.{AreSharesByLink}
use Rattle.boc_remedies.specs.declared.greedy_why.GreedyWhy.{GreedyWhy}

-- what leads on from row a of a greedy plan's chain: a spawn, by the row's def; the cowns that it hands to the row behind it; the worker that it leaves; or
-- nothing, where all is over
abbrev pub GreedyLinkSays : List Row → List ℕ → ℕ → Tie → Option GreedyStep → Link → Type 0
GreedyLinkSays rows defs a ties.Spawn next (SpawnBy def) = def ≡ def_of defs a
GreedyLinkSays rows defs a ties.Order (Some next) (Hands cowns) = AreHanded rows a next.row cowns.items
GreedyLinkSays rows defs a ties.Worker next Frees = Unit {0}
GreedyLinkSays rows defs a ties.Last next Ends = Unit {0}
GreedyLinkSays rows defs a tie next link = ⊥

-- the same of a step, where it has a tie that holds of the step behind it
abbrev pub IsGreedyLink : List Row → List ℕ → GreedyStep → Option GreedyStep → Link → Type 0
IsGreedyLink rows defs s next link = (s.tie ≡ ties.Order → (n : GreedyStep) × (next ≡ Some n)) → GreedyLinkSays rows defs s.row s.tie next link

-- for each step of a chain what leads on from it
pub record AreGreedyLinks (rows : List Row) (defs : List ℕ) (steps : List GreedyStep) (links : List Link) : Type 0 where
  pub whole : length links ≡ length steps
  pub at : (k : ℕ) (s : GreedyStep) (link : Link) → slice_get steps k ≡ Some s → slice_get links k ≡ Some link
      → IsGreedyLink rows defs s (slice_get steps (suc k)) link

-- the def of each step's row
abbrev pub defs_at : List ℕ → List GreedyStep → List ℕ
defs_at defs steps = map (λ s. def_of defs s.row) steps

-- what the steps weigh
abbrev pub greedy_weights : List GreedyStep → List ℕ
greedy_weights steps = map (λ s. s.weight) steps

-- the greedy plan of the rows for p workers: its end, its chain, whose weights add up to it, what leads on from each of its steps, and its shares by def and
-- by link
pub record IsGreedyWhy (rows : List Row) (p : ℕ) (defs : List ℕ) (why : GreedyWhy) : Type 0 where
  pub asked : why.p ≡ p
  pub plan : List ℕ
  pub workers : List ℕ
  pub greedy : IsGreedy rows p plan workers
  pub end : IsEnd rows plan why.end
  pub chain : IsGreedyChain rows plan workers why.steps.items
  pub adds_up : sum_by (λ s. s.weight) why.steps.items ≡ why.end
  pub links : AreGreedyLinks rows defs why.steps.items why.links.items
  pub by_def : AreShares (defs_at defs why.steps.items) (greedy_weights why.steps.items) why.by_def.items
  pub by_link : AreSharesByLink why.links.items (greedy_weights why.steps.items) why.by_link.items

-- ---- the same chain

-- the two ties are the same
abbrev pub IsSameTie : Via → Tie → Type 0
IsSameTie vias.Spawn ties.Spawn = Unit {0}
IsSameTie vias.Order ties.Order = Unit {0}
IsSameTie vias.Last ties.Last = Unit {0}
IsSameTie via tie = ⊥

-- the two steps are the same
abbrev pub IsSameStep : ChainStep → GreedyStep → Type 0
IsSameStep step other = IsSameTie step.via other.tie × (step.row ≡ other.row) × (step.weight ≡ other.weight)

-- the chain of the earliest plan and that of the greedy one are the same, step by step
abbrev pub IsSameChain : List ChainStep → List GreedyStep → Type 0
IsSameChain [] [] = Unit {0}
IsSameChain [] (other ∷ others) = ⊥
IsSameChain (step ∷ steps) [] = ⊥
IsSameChain (step ∷ steps) (other ∷ others) = IsSameStep step other × IsSameChain steps others

-- two say the same of a greedy plan, though they stand in other memory
pub record SayTheSameOfGreedy (why other : GreedyWhy) : Type 0 where
  pub p : why.p ≡ other.p
  pub end : why.end ≡ other.end
  pub steps : why.steps.items ≡ other.steps.items
  pub links : why.links.items ≡ other.links.items
  pub by_def : why.by_def.items ≡ other.by_def.items
  pub by_link : why.by_link.items ≡ other.by_link.items

-- the same of a greedy plan where there is one, or none in both
abbrev pub SayTheSameIfAsked : Option GreedyWhy → Option GreedyWhy → Type 0
SayTheSameIfAsked None None = Unit {0}
SayTheSameIfAsked None (Some other) = ⊥
SayTheSameIfAsked (Some why) None = ⊥
SayTheSameIfAsked (Some why) (Some other) = SayTheSameOfGreedy why other
