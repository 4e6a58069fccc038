-- The better order that is told.
use Rattle.std.specs.Prelude.{◌≡◌, ◌<◌, ◌≤◌, ℕ, List, Option, Some, None}
use Rattle.boc_runs.specs.declared.rows.Row.{Row}
use Rattle.boc_eager.specs.declared.plan.Eager.{Eager}
use Rattle.boc_eager.specs.Eager.{IsEagerPlanOf}
use Rattle.boc_eager.specs.Swaps.{IsFirstSwap}
use Rattle.boc_advice_report.specs.declared.order.OtherOrder.{OtherOrder}

-- the order is that of an eager plan that ends before the span, with where it first goes otherwise
pub record IsOrderOf (rows : List Row) (span : ℕ) (plan : Eager) (order : OtherOrder) : Type 0 where
  pub sooner : plan.end < span
  pub end : order.end ≡ plan.end
  pub differs : IsFirstSwap rows plan.starts.items (Some order.swap)

-- the order in which whatever can start does, where it ends before the span; and else none
abbrev pub IsOrderFor : List Row → ℕ → Eager → Option OtherOrder → Type 0
IsOrderFor rows span plan None = span ≤ plan.end
IsOrderFor rows span plan (Some order) = IsOrderOf rows span plan order

pub record IsOtherOrder (rows : List Row) (span : ℕ) (order : Option OtherOrder) : Type 0 where
  pub plan : Eager
  pub is_plan : IsEagerPlanOf rows plan
  pub is : IsOrderFor rows span plan order
