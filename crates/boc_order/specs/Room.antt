-- The room that a plan has.
use Rattle.std.specs.Prelude.{ℕ, ◌≤◌, vec_capacity}
use Rattle.boc_order.specs.declared.plan.Earliest.{Earliest}

-- so many rows can be placed without more memory
pub record HasRoom (plan : Earliest) (count : ℕ) : Type 0 where
  pub starts : count ≤ vec_capacity plan.starts
  pub ends : count ≤ vec_capacity plan.ends
  pub after : count ≤ vec_capacity plan.after
