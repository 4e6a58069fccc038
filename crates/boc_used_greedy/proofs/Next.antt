-- The next start of a plan.
use Rattle.std.proofs.Common.{◌≡◌, ◌⊎◌, inl, inr, ℕ, ◌+◌, ◌*◌, ◌^◌, ◌<◌, ◌≤◌, max, List, length, Option, Some, None, subst, sym, ap, arith}
use Rattle.std.specs.Prelude.{slice_index, IfSome, IfNone}
use Rattle.std.specs.BinaryHeap.{heap_items}
use Rattle.boc_program.specs.declared.limits.TheConstants.{MOST_TICKS}
use Rattle.boc_runs.specs.declared.rows.Row.{Row}
use Rattle.boc_runs.specs.Rows.{IsRows}
use Rattle.boc_greedy.specs.Queues.{IsIn}
use Rattle.boc_greedy.specs.Simulating.{later}
use Rattle.boc_uses.specs.declared.uses.Use.{Use}
use Rattle.boc_turns.specs.Turns.{use_of, IsWithin}
use Rattle.boc_used_greedy.specs.declared.plan.Plan.{Plan}
use Rattle.boc_used_greedy.specs.Ready.{IsReadyBy, IsReadyFrom}
use Rattle.boc_used_greedy.specs.Plans.{NotStarted, IsMade, IsIdle, IsLeastRow, IsLow, IsNextStart, unstarted_of, most_on}
use Rattle.boc_used_greedy.proofs.Leaving.{own}
use Rattle.boc_used_greedy.proofs.Moving.{due_soon, free_soon, none_between}
use Rattle.boc_used_greedy.proofs.Starting.{low_tick}

module _ (rows : List Row) (hr : IsRows rows) (holds : List (Option Use))
    (within : (c r : ℕ) (u : Use) → own rows holds c r ≡ Some u → IsWithin MOST_TICKS u) (p : ℕ) (plan : Plan) (m : IsMade rows holds p None plan)
    (low : IsLow rows plan.starts.items plan.tick) where
  tick_low : plan.tick < 2 ^ 60
  tick_low = low_tick rows hr plan.starts.items plan.tick low

  -- the least tick at which a worker is free comes soon
  pub least_soon : (least : ℕ) → ((k : ℕ) × (k < length plan.free.items) × (least ≡ slice_index plan.free.items k)) → least ≤ plan.tick + MOST_TICKS
  least_soon least (k, h, e) = omega (
    arith,
    e,
    free_soon rows hr holds within p plan.starts.items plan.workers.items plan.tick m.greedy (omega (arith, tick_low)) plan.free.items m.free k
        (omega (arith, h, m.free.whole)),
  )

  pub idle_first : (least next : ℕ) → ((k : ℕ) → k < length plan.free.items → least ≤ slice_index plan.free.items k)
      → ((k : ℕ) × (k < length plan.free.items) × (least ≡ slice_index plan.free.items k)) → next ≡ max plan.tick least → IsIdle rows holds plan next
  idle_first least next low_all there is = record {
    before = omega (arith, is, least_soon least there, tick_low);
    idle = λ t ge lt. inl (λ w below. omega (arith, low_all w below, is, ge, lt));
  }

  -- what is due first of the rows that wait is due soon
  pub due_low : (due r : ℕ) → NotStarted rows plan.starts.items r → IsReadyFrom rows holds plan.starts.items due r → due < 2 ^ 63 → due ≤ plan.tick + most_on
  due_low due r not from small =
      due_soon rows hr holds within p plan.starts.items plan.workers.items plan.tick m.greedy (omega (arith, tick_low)) due r not.0 small from

  -- the next start, at a tick that comes soon
  pub next_start : (new : Plan) (row w : ℕ) → new.starts.items ≡ plan.starts.items → new.free.items ≡ plan.free.items → IsLeastRow rows holds new row
      → ((due r : ℕ) → IsIn (heap_items new.waiting) due r → new.tick < due) → w < length plan.free.items → slice_index plan.free.items w ≤ new.tick
      → new.tick ≤ plan.tick + most_on → IsNextStart rows holds new row
  next_start new row w starts free is after below by soon = record {
    row_is = is;
    after = after;
    worker = w;
    below = omega (arith, below, ap (length {A = ℕ}) free);
    free = omega (arith, by, ap (λ (l : List ℕ). slice_index l w) free);
    low = omega (arith, low, soon, ap unstarted_of starts);
  }

-- what follows for what is there
pub some_map : {X : Type 0} (o : Option X) (P Q : X → Type 0) → ((x : X) → P x → Q x) → IfSome o P → IfSome o Q
some_map None P Q f h = h
some_map (Some x) P Q f h = f x h

pub none_map : {X : Type 0} (o : Option X) (P Q : Type 0) → (P → Q) → IfNone o P → IfNone o Q
none_map None P Q f h = f h
none_map (Some x) P Q f h = h
