-- Chains of rows, and the chain that a report shows.
use Rattle.std.specs.Prelude.{◌≡◌, ℕ, suc, ◌+◌, ◌<◌, ◌≤◌, List, length, slice_get, Option, Some, None}
use Rattle.std.specs.List.{sum_by}
use Rattle.boc_runs.specs.declared.rows.Row.{Row}
use Rattle.boc_plans.specs.declared.chain.ChainStep.{ChainStep}
use Rattle.boc_plans.specs.declared.chain.Via.{Via}
use Rattle.boc_plans.specs.declared.chain.Via.TheVariants.{Spawn, Order, Last}
use Rattle.boc_runs.specs.Rows.{offset_of, ticks_of}
use Rattle.boc_plans.specs.Plans.{IsChild, Ordered, start_of, end_of, IsEnd}

-- the weight of a chain: that of all its steps
abbrev pub weight_of : List ChainStep → ℕ
weight_of steps = sum_by (λ s. s.weight) steps

-- what a link from row a with this weight says of the step after it: a spawn weighs the offset, the others the row's ticks
abbrev pub LinkVia : List Row → ℕ → ℕ → Via → Option ChainStep → Type 0
LinkVia rows a weight Spawn (Some next) = IsChild rows a next.row × (weight ≡ offset_of rows next.row)
LinkVia rows a weight Order (Some next) = Ordered rows a next.row × (weight ≡ ticks_of rows a)
LinkVia rows a weight Last None = weight ≡ ticks_of rows a
LinkVia rows a weight Spawn None = ⊥
LinkVia rows a weight Order None = ⊥
LinkVia rows a weight Last (Some next) = ⊥

-- the step's row is there, and its link holds of the step after it
abbrev pub IsLink : List Row → ChainStep → Option ChainStep → Type 0
IsLink rows s next = (s.row < length rows) × LinkVia rows s.row s.weight s.via next

-- the step at place k, if any, holds: the first is row 0, and its link holds of the step after it
abbrev pub StepHolds : List Row → List ChainStep → ℕ → Type 0
StepHolds rows steps k = (s : ChainStep) → slice_get steps k ≡ Some s → (k ≡ 0 → s.row ≡ 0) × IsLink rows s (slice_get steps (suc k))

-- a chain: there is a step, and every step holds
pub record IsChain (rows : List Row) (steps : List ChainStep) : Type 0 where
  pub not_empty : 0 < length steps
  pub holds : (k : ℕ) → StepHolds rows steps k

-- the row starts as soon as it is spawned
abbrev pub IsSpawnTight : List Row → List ℕ → ℕ → Type 0
IsSpawnTight rows plan b = (a : ℕ) × IsChild rows a b × (start_of plan a + offset_of rows b ≡ start_of plan b)

-- the row starts at the end of row a, which is ordered before it
abbrev pub IsOrderTight : List Row → List ℕ → ℕ → ℕ → Type 0
IsOrderTight rows plan a b = Ordered rows a b × (end_of rows plan a ≡ start_of plan b)

-- what the tie-breaks say of a link from row a: the spawn where that is tight, else the least tight row
abbrev pub PickedVia : List Row → List ℕ → ℕ → Via → Option ChainStep → Type 0
PickedVia rows plan a Spawn (Some next) = IsSpawnTight rows plan next.row
PickedVia rows plan a Order (Some next) = (IsSpawnTight rows plan next.row → ⊥) × IsOrderTight rows plan a next.row
    × ((other : ℕ) → IsOrderTight rows plan other next.row → a ≤ other)
PickedVia rows plan a Last None = IsEnd rows plan (end_of rows plan a)
    × ((other : ℕ) → other < length rows → IsEnd rows plan (end_of rows plan other) → a ≤ other)
PickedVia rows plan a Spawn None = ⊥
PickedVia rows plan a Order None = ⊥
PickedVia rows plan a Last (Some next) = ⊥

-- the chain that the tie-breaks take in this plan
pub record IsPicked (rows : List Row) (plan : List ℕ) (steps : List ChainStep) : Type 0 where
  pub chain : IsChain rows steps
  pub picked : (k : ℕ) (s : ChainStep) → slice_get steps k ≡ Some s → PickedVia rows plan s.row s.via (slice_get steps (suc k))

-- the place of the first step that doesn't hold, and 0 where there is none at all
pub record IsFirstFalse (rows : List Row) (steps : List ChainStep) (k : ℕ) : Type 0 where
  pub place : 0 < length steps → k < length steps
  pub place_of_none : length steps ≡ 0 → k ≡ 0
  pub before : (j : ℕ) → j < k → StepHolds rows steps j
  pub false_there : k < length steps → StepHolds rows steps k → ⊥
