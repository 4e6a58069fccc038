-- The greedy plan: no worker is idle while a row that is ready waits.
use Rattle.std.proofs.Common.{◌≡◌, ℕ, ◌<◌, List, length, refl, sym, inl, inr, arith}
use Rattle.std.proofs.lemmas.Bool.{cases_lt}
use Rattle.boc_runs.specs.declared.rows.Row.{Row}
use Rattle.boc_runs.specs.Rows.{IsRows}
use Rattle.boc_plans.specs.Plans.{start_of, end_of}
use Rattle.boc_plans.specs.Greedy.{worker_of, IsReady, IsFree, IsGreedy}
use Rattle.boc_greedy.proofs.Bound.{greedy_keeps, greedy_for_workers}
use Rattle.boc_busy.specs.Busy.{IsBusy, IsIdle}

module _ (rows : List Row) (hr : IsRows rows) (p : ℕ) (some : 0 < p) (plan workers : List ℕ) (g : IsGreedy rows p plan workers) where
  none_idle_then : (b t w : ℕ) → IsReady rows plan t b → t < start_of plan b → IsIdle rows p plan workers t w → ⊥
  none_idle_then b t w ready later idle =
      let free : IsFree rows p plan workers t w = record {
        below = idle.below;
        idle = λ r there e s. elim (cases_lt t (end_of rows plan r)) [
          | inl l ↦ absurd (idle.none r (record { there = there; begun = omega arith; not_over = l }) e)
          | inr ge ↦ ge
        ];
      } in
      let (r, there, start, stands) = (g.at t).none_idle b w ready later free in
      idle.none r (record { there = there; begun = omega (arith, start); not_over = omega (arith, start, hr.ticks_low r there) }) stands

  pub greedy_is_busy : IsBusy rows p plan workers
  greedy_is_busy = record {
    keeps = greedy_keeps rows hr p some plan workers g;
    for_workers = greedy_for_workers rows hr p some plan workers g;
    none_idle = none_idle_then;
  }
