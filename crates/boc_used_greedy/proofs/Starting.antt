-- A plan with one more start.
use Rattle.std.proofs.Common.{◌≡◌, ◌⊎◌, ℕ, ◌+◌, ◌*◌, ◌^◌, ◌<◌, ◌≤◌, List, length, set, get_or, Option, Some, None, inl, inr, subst, sym, ap, ◌∙◌, arith}
use Rattle.std.specs.Prelude.{slice_index, slice_set}
use Rattle.std.specs.List.{Contains, sum_by}
use Rattle.std.specs.BinaryHeap.{heap_items}
use Rattle.std.proofs.lemmas.List.Sums.{sum_by-set}
use Rattle.std.proofs.lemmas.Bool.{cases_eq}
use Rattle.boc_program.specs.declared.limits.TheConstants.{MOST_TICKS}
use Rattle.boc_runs.specs.declared.rows.Row.{Row}
use Rattle.boc_runs.specs.Rows.{IsRows, ticks_of}
use Rattle.boc_plans.specs.Plans.{start_of, IsChild}
use Rattle.boc_order.proofs.Filling.{one_if, one_same, one_other}
use Rattle.boc_greedy.specs.Simulating.{later}
use Rattle.boc_greedy.proofs.Puts.{Puts, puts}
use Rattle.boc_uses.specs.declared.uses.Use.{Use}
use Rattle.boc_turns.specs.Turns.{use_of, IsWithin}
use Rattle.boc_used_greedy.specs.declared.plan.Plan.{Plan}
use Rattle.boc_used_greedy.specs.Fronts.{AreFronts, AreNewlyTold, IsOneMore, IsLowPlan}
use Rattle.boc_used_greedy.specs.Plans.{IsMade, IsNextStart, IsPlaced, IsQueuedMore, IsLow, NotStarted, unstarted_of, most_on}
use Rattle.boc_used_greedy.proofs.Leaving.{own}
use Rattle.boc_used_greedy.proofs.Scheduling.{start_greedy, start_free, start_next}
use Rattle.boc_used_greedy.proofs.Started.{start_queued}

-- one row fewer has not started
pub unstarted_less : (plan : List ℕ) (r tick : ℕ) → r < length plan → start_of plan r ≡ later → tick < later
    → unstarted_of (slice_set plan r tick) + 1 ≡ unstarted_of plan
unstarted_less plan r tick there not before =
    let s : sum_by (λ (x : ℕ). one_if x later) (set plan r tick) + one_if (get_or plan r 0) later
    ≡ sum_by (λ (x : ℕ). one_if x later) plan + one_if tick later = sum_by-set (λ (x : ℕ). one_if x later) plan r tick 0 there in
    omega (arith, s, one_same (get_or plan r 0) later not, one_other tick later (λ e. omega (arith, e, before)))

-- so many that no tick of the plan is too great
pub low_tick : (rows : List Row) → IsRows rows → (plan : List ℕ) (tick : ℕ) → IsLow rows plan tick → tick < 2 ^ 60
low_tick rows hr plan tick low = omega (arith, low, hr.not_many)

pub next_tick : (rows : List Row) → IsRows rows → (holds : List (Option Use)) (plan : Plan) (row : ℕ) → IsNextStart rows holds plan row → plan.tick < 2 ^ 61
next_tick rows hr holds plan row x = omega (arith, x.low, hr.not_many)

module _ (rows : List Row) (hr : IsRows rows) (holds : List (Option Use))
    (within : (c r : ℕ) (u : Use) → own rows holds c r ≡ Some u → IsWithin MOST_TICKS u) (plan : Plan) (row : ℕ) (x : IsNextStart rows holds plan row)
    (more : Plan) (s : IsPlaced rows plan row more) where
  tick_low : plan.tick < 2 ^ 61
  tick_low = next_tick rows hr holds plan row x

  module _ (p : ℕ) (m : IsMade rows holds p (Some row) plan) where
    starts_put : Puts plan.starts.items more.starts.items row plan.tick
    starts_put = subst (λ (l : List ℕ). Puts plan.starts.items l row plan.tick) (sym s.starts)
        (puts plan.starts.items row plan.tick (omega (arith, x.row_is.not_started.0, m.greedy.whole)))

    workers_put : Puts plan.workers.items more.workers.items row s.worker
    workers_put = subst (λ (l : List ℕ). Puts plan.workers.items l row s.worker) (sym s.workers)
        (puts plan.workers.items row s.worker (omega (arith, x.row_is.not_started.0, m.greedy.all_served)))

    free_put : Puts plan.free.items more.free.items s.worker (plan.tick + ticks_of rows row)
    free_put = subst (λ (l : List ℕ). Puts plan.free.items l s.worker (plan.tick + ticks_of rows row)) (sym s.free)
        (puts plan.free.items s.worker (plan.tick + ticks_of rows row) s.first.below)

    below : s.worker < p
    below = omega (arith, s.first.below, m.free.whole)

    pub one_more : IsOneMore plan.starts.items row more.starts.items
    one_more = record { not_started = x.row_is.not_started.1; same = starts_put.others }

    pub more_low : IsLowPlan rows more.starts.items
    more_low r there h = elim (cases_eq r row) [
      | inl e ↦ omega (arith, ap (start_of more.starts.items) e, starts_put.at, tick_low)
      | inr ne ↦ (
          let same = starts_put.others r ne in
          omega (arith, same, m.greedy.come r (there, omega (arith, h, same)), tick_low))
    ]

    pub made_more : (new : Plan) → new.starts.items ≡ more.starts.items → new.workers.items ≡ more.workers.items → new.free.items ≡ more.free.items
        → new.tick ≡ plan.tick → heap_items new.ready ≡ heap_items plan.ready → AreFronts rows holds more.starts.items new.fronts.items → (list : List ℕ)
        → ((b : ℕ) → IsChild rows row b → Contains list b)
        → AreNewlyTold rows holds more.starts.items plan.fronts.items new.fronts.items list
        → IsQueuedMore rows holds more.starts.items list (heap_items plan.waiting) (heap_items new.waiting) → IsMade rows holds p None new
    made_more new starts workers free tick ready fronts list children told queued = record {
      greedy = rw (starts, workers, tick) (start_greedy rows hr holds p _ _ _ m.greedy _ m.free m.coming
          row s.worker x.row_is.not_started x.row_is.ready x.row_is.least below s.first.free
          s.first.first _ _ _ starts_put workers_put free_put);
      free = rw (starts, workers, free) (start_free rows hr holds p _ _ _ m.greedy _ m.free m.coming
          row s.worker x.row_is.not_started x.row_is.ready x.row_is.least below s.first.free
          s.first.first _ _ _ starts_put workers_put free_put);
      coming = rw (starts, workers, free, tick) (start_next rows hr holds p _ _ _ m.greedy _ m.free m.coming
          row s.worker x.row_is.not_started x.row_is.ready x.row_is.least below s.first.free
          s.first.first _ _ _ starts_put workers_put free_put);
      fronts = rw starts fronts;
      queued = rw (starts, ready, tick) (start_queued rows hr holds within _ _ row plan.tick x.row_is.not_started tick_low starts_put m.greedy.most
          (λ a there h. m.greedy.come a (there, h)) x.row_is.ready _ _ m.fronts fronts list children told _ _ _ m.queued x.after queued);
      few = m.few;
      some = m.some;
    }

    pub fewer : unstarted_of more.starts.items + 1 ≡ unstarted_of plan.starts.items
    fewer = ap (λ (l : List ℕ). unstarted_of l + 1) s.starts
        ∙ unstarted_less plan.starts.items row plan.tick (omega (arith, x.row_is.not_started.0, m.greedy.whole)) x.row_is.not_started.1
        (omega (arith, tick_low))

    pub low_more : IsLow rows more.starts.items plan.tick
    low_more = omega (arith, x.low, fewer)
