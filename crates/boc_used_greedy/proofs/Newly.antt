-- The greedy plan before any row has started.
use Rattle.std.proofs.Common.{◌≡◌, inl, inr, ℕ, ◌<◌, ◌≤◌, List, [], ◌∷◌, length, replicate, Option, None, subst, sym, ap, arith}
use Rattle.std.specs.List.{Contains}
use Rattle.std.specs.List.Sorted.{IsPermutation}
use Rattle.std.specs.BinaryHeap.{heap_items, IsHeap}
use Rattle.std.specs.declared.cmp.Reverse.{Reverse}
use Rattle.std.proofs.lemmas.Bool.{cases_eq}
use Rattle.std.proofs.lemmas.List.{length-replicate, get_or-replicate}
use Rattle.boc_program.specs.declared.limits.TheConstants.{MOST_WORKERS}
use Rattle.boc_runs.specs.declared.rows.Row.{Row}
use Rattle.boc_runs.specs.Rows.{IsRows, cowns_of, parent_of}
use Rattle.boc_plans.specs.Plans.{start_of}
use Rattle.boc_greedy.specs.Queues.{Entry, entry_order, IsIn}
use Rattle.boc_greedy.specs.Simulating.{later}
use Rattle.boc_uses.specs.declared.uses.Use.{Use}
use Rattle.boc_turns.proofs.Gathering.{use_has}
use Rattle.boc_used_greedy.specs.declared.plan.Plan.{Plan}
use Rattle.boc_used_greedy.specs.Fronts.{AreFronts}
use Rattle.boc_used_greedy.specs.Plans.{AreFreeFrom, AreQueued, HasStarted, IsGreedySoFar, IsMade, IsNext, IsReady, row_order}
use Rattle.boc_used_greedy.specs.Ready.{IsReadyBy}
use Rattle.boc_used_greedy.proofs.Heaps.{in_was, in_here}

-- a plan in which no row has started: all of them stand at the tick after every tick, and all workers are free
pub record IsNew (rows : List Row) (p : ℕ) (plan : Plan) : Type 0 where
  pub starts : plan.starts.items ≡ replicate (length rows) later
  pub workers : length plan.workers.items ≡ length rows
  pub free : plan.free.items ≡ replicate p 0
  pub tick : plan.tick ≡ 0
  pub waiting_heap : IsHeap entry_order (heap_items plan.waiting)
  pub ready_heap : IsHeap row_order (heap_items plan.ready)
  pub waiting : IsPermutation (record { 0 = (0, 0) } ∷ []) (heap_items plan.waiting)
  pub ready : heap_items plan.ready ≡ []

module _ (rows : List Row) (hr : IsRows rows) (holds : List (Option Use)) (p : ℕ) (plan : Plan) (new : IsNew rows p plan) where
  abbrev starts : List ℕ
  starts = plan.starts.items

  not_started : (r : ℕ) → r < length rows → start_of starts r ≡ later
  not_started r there = rw new.starts (get_or-replicate (length rows) r later 0 there)

  none : (r : ℕ) → HasStarted rows starts r → ⊥
  none r s = omega (arith, s.1, not_started r s.0)

  none_before : {t : ℕ} → t < plan.tick → ⊥
  none_before lt = omega (arith, lt, new.tick)

  whole : length starts ≡ length rows
  whole = rw new.starts (length-replicate (length rows) later)

  main_ready : IsReadyBy rows holds starts 0 0
  main_ready = record {
    spawned = λ above. absurd (omega (arith, above));
    in_turn = λ c u e need. absurd (
        let empty : Contains [] c = subst (λ (l : List ℕ). Contains l c) hr.main_cowns (use_has (cowns_of rows 0) _ c u e) in
        omega (arith, empty.1));
  }

  only_main : (due r : ℕ) → IsIn (heap_items plan.waiting) due r → (due ≡ 0) × (r ≡ 0)
  only_main due r i = elim (in_was (heap_items plan.waiting) [] (record { 0 = (0, 0) }) new.waiting _ i) [
    | inl e ↦ (sym (ap (λ (x : Entry). x.0.0) e), sym (ap (λ (x : Entry). x.0.1) e))
    | inr old ↦ absurd (omega (arith, old.1))
  ]

  none_ready : (r : ℕ) → IsReady (heap_items plan.ready) r → ⊥
  none_ready r i = (let empty : IsReady [] r = subst (λ (l : List (Reverse ℕ)). IsReady l r) new.ready i in omega (arith, empty.1))

  new_greedy : IsGreedySoFar rows holds p starts plan.workers.items plan.tick
  new_greedy = record {
    whole = whole;
    all_served = new.workers;
    most = λ r there. omega (arith, not_started r there);
    come = λ r s. absurd (none r s);
    before = omega (arith, new.tick);
    ready = λ r s. absurd (none r s);
    free = λ r s. absurd (none r s);
    rising = λ a b lt s other e. absurd (none a s);
    least_workers = λ r w s free lt. absurd (none r s);
    least_rows = λ a b t lt can before there e. absurd (none_before lt);
    none_idle = λ b w t lt can before free. absurd (none_before lt);
  }

  new_free : AreFreeFrom rows p starts plan.workers.items plan.free.items
  new_free = record {
    whole = rw new.free (length-replicate p 0);
    below = λ r s. absurd (none r s);
    above = λ r s. absurd (none r s);
    reached = λ w low. inl (rw new.free (get_or-replicate p w 0 0 low));
  }

  new_next : IsNext rows holds starts plan.workers.items plan.free.items plan.tick
  new_next = record {
    rows_rise = λ a b s e not by. absurd (none a s);
    workers_rise = λ a w s e low by. absurd (none a s);
  }

  new_queued : AreQueued rows holds starts (heap_items plan.waiting) (heap_items plan.ready) plan.tick None
  new_queued = record {
    waiting_heap = new.waiting_heap;
    ready_heap = new.ready_heap;
    waits = λ due r i. (
        let (at, is) = only_main due r i in
        rw (at, is) ((hr.not_empty, not_started 0 hr.not_empty), record { ready = main_ready; least = λ t by. omega arith }, omega arith));
    are_ready = λ r i. absurd (none_ready r i);
    all = λ t r low not by. elim (cases_eq r 0) [
      | inl e ↦ rw e (inr (inr (0, in_here (heap_items plan.waiting) [] (record { 0 = (0, 0) }) new.waiting)))
      | inr ne ↦ absurd (
          let above : 0 < r = omega (arith, ne) in
          let before = hr.parent_before r above not.0 in
          omega (arith, by.spawned above, not_started (parent_of rows r) (omega (arith, before, not.0)), low))
    ];
  }

  pub new_made : AreFronts rows holds starts plan.fronts.items → p ≤ MOST_WORKERS → 0 < p → IsMade rows holds p None plan
  new_made fronts few some = record {
    greedy = new_greedy;
    free = new_free;
    coming = new_next;
    fronts = fronts;
    queued = new_queued;
    few = few;
    some = some;
  }
