-- A plan keeps if no row starts before its spawn, nor before the end of a row that it waits for.
use Rattle.std.proofs.Common.{◌≡◌, ℕ, zero, suc, ◌+◌, ◌<◌, ◌≤◌, List, length, inl, inr, arith}
use Rattle.boc_runs.specs.declared.rows.Row.{Row}
use Rattle.boc_plans.specs.Plans.{start_of, end_of, Keeps, Ordered}
use Rattle.boc_order.proofs.Near.{near_complete, near_ordered}
use Rattle.boc_busy.specs.Keeping.{KeepsAt}

module _ (rows : List Row) (plan : List ℕ) where
  module _ (at : (b : ℕ) → b < length rows → KeepsAt rows plan b) where
    -- a row that is ordered before another is over when that starts, since it is near, or one in between is over
    all_ordered : (d a b : ℕ) → b ≤ a + d → b < length rows → Ordered rows a b → end_of rows plan a ≤ start_of plan b
    all_ordered zero a b far there o = absurd (omega (arith, far, o.before))
    all_ordered (suc d) a b far there o = elim (near_complete rows a b there o) [
      | inl near ↦ (at b there).near a near
      | inr (k, first, second) ↦ (
          let early : end_of rows plan a ≤ start_of plan k =
          all_ordered d a k (omega (arith, far, second.before)) (omega (arith, there, second.before)) first in
          let late : end_of rows plan k ≤ start_of plan b = all_ordered d k b (omega (arith, far, first.before)) there second in
          omega (arith, early, late))
    ]

    pub all_at : length plan ≡ length rows → Keeps rows plan
    all_at whole = record {
      whole = whole;
      spawned = λ a b child. (at b child.there).spawned a child;
      in_order = λ a b there o. all_ordered b a b (omega arith) there o;
    }

  pub at_each : Keeps rows plan → (b : ℕ) → b < length rows → KeepsAt rows plan b
  at_each keeps b there = record {
    spawned = λ a child. keeps.spawned a b child;
    near = λ a near. keeps.in_order a b there (near_ordered rows a b near);
  }
