-- Links of a chain that hand on none but some cowns.
use Rattle.std.specs.Prelude.{◌≡◌, ℕ, suc, List, Some, slice_get}
use Rattle.std.specs.List.{Contains}
use Rattle.boc_runs.specs.declared.rows.Row.{Row}
use Rattle.boc_plans.specs.declared.chain.ChainStep.{ChainStep}
use Rattle.boc_plans.specs.declared.chain.Via.TheVariants.{Order}
use Rattle.boc_plans.specs.Plans.{ConflictOn, Ordered}

-- row a is ordered before row b, and each cown over which it is is one of these
pub record IsOrderedWithin (rows : List Row) (cowns : List ℕ) (a b : ℕ) : Type 0 where
  pub ordered : Ordered rows a b
  pub within : (c : ℕ) → ConflictOn rows c a b → Contains cowns c

-- some order link of the chain leads from a row to the next one over none but these cowns
pub record HasLinkWithin (rows : List Row) (cowns : List ℕ) (steps : List ChainStep) : Type 0 where
  pub place : ℕ
  pub from : ChainStep
  pub to : ChainStep
  pub here : slice_get steps place ≡ Some from
  pub next : slice_get steps (suc place) ≡ Some to
  pub via_order : from.via ≡ Order
  pub over_these : IsOrderedWithin rows cowns from.row to.row
