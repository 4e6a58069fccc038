-- The cowns that a row hands to another.
use Rattle.std.specs.Prelude.{◌↔◌, ℕ, List}
use Rattle.std.specs.List.{Contains}
use Rattle.std.specs.List.Sorted.{IsStrictlyIncreasing}
use Rattle.boc_runs.specs.declared.rows.Row.{Row}
use Rattle.boc_plans.specs.Plans.{ConflictOn}

-- the cowns over which row a is ordered before row b, rising
pub record AreHanded (rows : List Row) (a b : ℕ) (cowns : List ℕ) : Type 0 where
  pub rise : IsStrictlyIncreasing cowns
  pub each : (c : ℕ) → Contains cowns c ↔ ConflictOn rows c a b
