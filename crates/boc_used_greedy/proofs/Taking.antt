-- A row is taken from those that are ready.
use Rattle.std.proofs.Common.{◌≡◌, ◌⊎◌, inl, inr, ℕ, ◌^◌, ◌<◌, ◌≤◌, List, length, Option, Some, None, sym, ap}
use Rattle.std.specs.Prelude.{IfSome, IfNone}
use Rattle.std.specs.declared.cmp.Reverse.{Reverse}
use Rattle.std.specs.BinaryHeap.{IsHeap}
use Rattle.boc_runs.specs.declared.rows.Row.{Row}
use Rattle.boc_runs.specs.Rows.{IsRows}
use Rattle.boc_plans.specs.Plans.{start_of}
use Rattle.boc_greedy.specs.Queues.{IsIn}
use Rattle.boc_greedy.specs.Simulating.{later}
use Rattle.boc_uses.specs.declared.uses.Use.{Use}
use Rattle.boc_used_greedy.specs.declared.plan.Plan.{Plan}
use Rattle.boc_used_greedy.specs.Ready.{IsReadyBy}
use Rattle.boc_used_greedy.specs.Plans.{NotStarted, IsReady, IsLeastRow, AreQueued, row_order}
use Rattle.boc_used_greedy.proofs.Queueing.{now_ready}

module _ (rows : List Row) (hr : IsRows rows) (holds : List (Option Use)) (plan : List ℕ) (waiting : List (Reverse (ℕ × ℕ))) (ready : List (Reverse ℕ))
    (tick : ℕ) (q : AreQueued rows holds plan waiting ready tick None) where
  -- what is left is queued still, but for the row that was taken, if there was one
  pub take_queued : (taken : Option ℕ) (ready' : List (Reverse ℕ)) → IsHeap row_order ready' → ((r : ℕ) → IsReady ready' r → IsReady ready r)
      → IfSome taken (λ row. (r : ℕ) → IsReady ready r → start_of plan r ≡ later → (r ≡ row) ⊎ IsReady ready' r)
      → IfNone taken ((r : ℕ) → IsReady ready r → start_of plan r ≡ later → ⊥) → AreQueued rows holds plan waiting ready' tick taken
  take_queued None ready' heap was stays none = record {
    waiting_heap = q.waiting_heap;
    ready_heap = heap;
    waits = q.waits;
    are_ready = λ r i. q.are_ready r (was r i);
    all = λ t r low not by. elim (q.all t r low not by) [
      | inl e ↦ inl e
      | inr (inl i) ↦ absurd (none r i not.1)
      | inr (inr w) ↦ inr (inr w)
    ];
  }
  take_queued (Some row) ready' heap was stays none = record {
    waiting_heap = q.waiting_heap;
    ready_heap = heap;
    waits = q.waits;
    are_ready = λ r i. q.are_ready r (was r i);
    all = λ t r low not by. elim (q.all t r low not by) [
      | inl e ↦ absurd cc
      | inr (inl i) ↦ elim (stays r i not.1) [ inl e ↦ inl (ap (λ (x : ℕ). Some x) (sym e)) | inr still ↦ inr (inl still) ]
      | inr (inr w) ↦ inr (inr w)
    ];
  }

  module _ (after : (due r : ℕ) → IsIn waiting due r → tick < due) (low : tick < 2 ^ 63) where
    -- where no row that is ready has not started, none can start
    pub take_none : ((r : ℕ) → IsReady ready r → start_of plan r ≡ later → ⊥) → (r : ℕ) → NotStarted rows plan r → IsReadyBy rows holds plan tick r → ⊥
    take_none none r not by = none r (now_ready rows hr holds plan waiting ready tick q after r low not by) not.1

    -- the least of those that are ready and have not started is the least that can start
    pub take_least : (row : ℕ) → ((r : ℕ) → IsReady ready r → start_of plan r ≡ later → row ≤ r) → (r : ℕ) → NotStarted rows plan r
        → IsReadyBy rows holds plan tick r → row ≤ r
    take_least row least r not by = least r (now_ready rows hr holds plan waiting ready tick q after r low not by) not.1

    pub take_none_all : (taken : Option ℕ) → IfNone taken ((r : ℕ) → IsReady ready r → start_of plan r ≡ later → ⊥)
        → IfNone taken ((r : ℕ) → NotStarted rows plan r → IsReadyBy rows holds plan tick r → ⊥)
    take_none_all None none = take_none none
    take_none_all (Some row) none = none

-- the row that is taken is the least that can start
pub take_row : (rows : List Row) → IsRows rows → (holds : List (Option Use)) (new : Plan) (waiting : List (Reverse (ℕ × ℕ))) (ready : List (Reverse ℕ))
    → AreQueued rows holds new.starts.items waiting ready new.tick None → ((due r : ℕ) → IsIn waiting due r → new.tick < due) → new.tick < 2 ^ 63
    → (taken : Option ℕ) → IfSome taken (IsReady ready) → IfSome taken (λ row. start_of new.starts.items row ≡ later)
    → IfSome taken (λ row. (r : ℕ) → IsReady ready r → start_of new.starts.items r ≡ later → row ≤ r) → IfSome taken (IsLeastRow rows holds new)
take_row rows hr holds new waiting ready q after low None had waits least = had
take_row rows hr holds new waiting ready q after low (Some row) had waits least = record {
  not_started = ((q.are_ready row had).0, waits);
  ready = (q.are_ready row had).1;
  least = take_least rows hr holds new.starts.items waiting ready new.tick q after low row least;
}
