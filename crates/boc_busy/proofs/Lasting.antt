-- When a plan that keeps ends.
use Rattle.std.proofs.Common.{◌≡◌, ℕ, ◌+◌, ◌/◌, ◌^◌, ◌<◌, ◌≤◌, List, length, arith}
use Rattle.std.specs.Prelude.{All}
use Rattle.std.proofs.Math.Nat.{div-le_self}
use Rattle.boc_runs.specs.declared.rows.Row.{Row}
use Rattle.boc_runs.specs.Rows.{IsRows}
use Rattle.boc_plans.specs.Plans.{work_of, IsEnd, Keeps}
use Rattle.boc_plans.specs.Greedy.{IsBound, IsSpan}
use Rattle.boc_order.proofs.Alone.{one_bound, one_end}
use Rattle.boc_order.proofs.Chaining.{earliest_le_end}
use Rattle.boc_greedy.proofs.Bound.{work_high}
use Rattle.boc_busy.specs.declared.timed.TimedRows.{TimedRows}
use Rattle.boc_busy.specs.Timed.{AreTimed, IsInTime}

module _ (rows : List Row) (plan : List ℕ) (last : ℕ) (end : IsEnd rows plan last) where
  -- it ends no sooner than the span
  pub span_first : Keeps rows plan → (span : ℕ) → IsSpan rows span → span ≤ last
  span_first keeps span s = earliest_le_end rows s.plan span s.earliest s.ends plan last keeps end

  module _ (hr : IsRows rows) (whole : length plan ≡ length rows) (low : All (λ start. start < 2 ^ 62) plan) where
    end_low : last < 2 ^ 63
    end_low =
        let (r, there, is) = end.reached in
        omega (arith, is, low r 0 (omega (arith, there, whole)), hr.ticks_high r there)

    -- so the bound is small
    pub bound_low : (p work span : ℕ) → work ≡ work_of rows → span ≤ last → work / p + span < 2 ^ 64
    bound_low p work span is before = omega (arith, end_low, div-le_self work p, work_high rows hr, is, before)

  -- rows that are timed end in time
  pub timed_ends : (p work bound : ℕ) (workers : List ℕ) → work ≡ work_of rows → IsBound rows p bound → (t : TimedRows) → AreTimed rows p plan workers t
      → IsInTime p work bound last
  timed_ends p work bound workers is is_bound t are =
      let same_end : last ≡ t.ends_at = one_end rows plan last t.ends_at end are.last_is in
      let same_bound : bound ≡ t.bound = one_bound rows p bound t.bound is_bound are.bound_is in
      record {
        within = omega (arith, same_end, same_bound, are.in_time.within);
        alone = λ e. omega (arith, same_end, is, are.in_time.alone e);
      }
