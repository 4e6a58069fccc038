-- The links that were waited for, from a last row back to main.
use Rattle.std.specs.Prelude.{◌≡◌, ℕ, ◌+◌, ◌<◌, ◌≤◌, List, [], ◌∷◌, length, Option, Some, None, slice_get, ⊤}
use Rattle.boc_runs.specs.declared.rows.Row.{Row}
use Rattle.boc_plans.specs.declared.chain.ChainStep.{ChainStep}
use Rattle.boc_plans.specs.declared.chain.Via.TheVariants.{Spawn, Order}
use Rattle.boc_runs.specs.Rows.{parent_of, offset_of, ticks_of}
use Rattle.boc_plans.specs.Plans.{start_of, end_of, IsEnd}
use Rattle.boc_plans.specs.Chains.{weight_of, IsLink, PickedVia}

-- the step before row b: its parent's, or that of the row it waited for
abbrev pub IsStepBefore : List Row → Option ℕ → ℕ → ChainStep → Type 0
IsStepBefore rows None b s = s ≡ record { row = parent_of rows b; via = Spawn; weight = offset_of rows b }
IsStepBefore rows (Some a) b s = s ≡ record { row = a; via = Order; weight = ticks_of rows a }

-- each step has a link to the next one, and it is the one that is picked
abbrev pub ArePicked : List Row → List ℕ → List ChainStep → Type 0
ArePicked rows plan [] = ⊤
ArePicked rows plan (s ∷ steps) = IsLink rows s (slice_get steps 0) × PickedVia rows plan s.row s.via (slice_get steps 0) × ArePicked rows plan steps

-- the steps lead on from row r to the end of the plan, by picked links
pub record LeadsTo (rows : List Row) (plan : List ℕ) (last r : ℕ) (steps : List ChainStep) : Type 0 where
  pub top : ChainStep
  pub rest : List ChainStep
  pub is : steps ≡ top ∷ rest
  pub at : top.row ≡ r
  pub picked : ArePicked rows plan steps
  pub weight : start_of plan r + weight_of steps ≡ last

-- the least-numbered row that ends at the end of the plan
pub record IsFirstLatest (rows : List Row) (plan : List ℕ) (r : ℕ) : Type 0 where
  pub ends : IsEnd rows plan (end_of rows plan r)
  pub first : (other : ℕ) → other < length rows → IsEnd rows plan (end_of rows plan other) → r ≤ other
