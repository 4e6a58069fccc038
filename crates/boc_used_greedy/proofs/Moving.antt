-- A plan goes on: to the next tick at which a row can start, until none is left.
use Rattle.std.proofs.Common.{◌≡◌, ◌≢◌, ◌⊎◌, inl, inr, ℕ, zero, suc, ◌+◌, ◌*◌, ◌^◌, ◌<◌, ◌≤◌, List, length, Option, Some, None, sym, ap, ◌∙◌, arith}
use Rattle.std.specs.Prelude.{slice_index}
use Rattle.std.specs.declared.cmp.Reverse.{Reverse}
use Rattle.std.proofs.lemmas.Bool.{cases_lt, cases_eq}
use Rattle.boc_program.specs.declared.limits.TheConstants.{MOST_ROWS, MOST_TICKS}
use Rattle.boc_runs.specs.declared.rows.Row.{Row}
use Rattle.boc_runs.specs.Rows.{IsRows, parent_of, offset_of, ticks_of}
use Rattle.boc_plans.specs.Plans.{start_of, end_of}
use Rattle.boc_greedy.specs.Queues.{IsIn}
use Rattle.boc_greedy.specs.Simulating.{later}
use Rattle.boc_uses.specs.declared.uses.Use.{Use}
use Rattle.boc_turns.specs.Turns.{use_of, IsWithin}
use Rattle.boc_turns.specs.Course.{wrote_cown}
use Rattle.boc_used_greedy.specs.Ready.{came, IsReadyBy, IsReadyFrom}
use Rattle.boc_used_greedy.specs.Plans.{NotStarted, HasStarted, IsReady, IsGreedySoFar, AreFreeFrom, AreQueued, IsLow, unstarted_of, most_on}
use Rattle.boc_used_greedy.proofs.Leaving.{either, own, came_least, left_low, came_writes, came_reads}
use Rattle.boc_used_greedy.proofs.Known.{ready_low}
use Rattle.boc_used_greedy.proofs.Scheduling.{started_or_not}

module _ (rows : List Row) (hr : IsRows rows) (holds : List (Option Use))
    (within : (c r : ℕ) (u : Use) → own rows holds c r ≡ Some u → IsWithin MOST_TICKS u) (p : ℕ) (plan workers : List ℕ) (tick : ℕ)
    (g : IsGreedySoFar rows holds p plan workers tick) (low : tick < 2 ^ 61) where
  come : (a : ℕ) → a < length rows → start_of plan a < later → start_of plan a ≤ tick
  come a there s = g.come a (there, s)

  -- a row before which all have started can start soon
  ready_soon : (r : ℕ) → r < length rows → ((a : ℕ) → a < r → start_of plan a < later) → IsReadyBy rows holds plan (2 ^ 62) r
  ready_soon r there all = record {
    spawned = λ above. (
        let parent = hr.parent_before r above there in
        let start = come (parent_of rows r) (omega (arith, parent, there)) (all (parent_of rows r) parent) in
        omega (arith, start, low, hr.ticks_cover r above there, hr.ticks_high (parent_of rows r) (omega (arith, parent, there))));
    in_turn = λ c u e need. (
        let l = left_low rows holds c (within c) plan tick r (λ a v lt f. come a (omega (arith, lt, there)) (all a lt)) in
        elim (either (wrote_cown rows r c)) [
          | inl w ↦ omega (arith, came_writes rows holds c plan r w, l.0, low, there, hr.not_many)
          | inr w ↦ omega (arith, came_reads rows holds c plan r w, l.1, low, there, hr.not_many)
        ]);
  }

  -- where no row can start by any tick none is left
  pub none_left : ((t r : ℕ) → t < 2 ^ 63 → NotStarted rows plan r → IsReadyBy rows holds plan t r → ⊥) → (n r : ℕ) → r < n → NotStarted rows plan r → ⊥
  none_left none zero r lt not = omega (arith, lt)
  none_left none (suc n) r lt not = none (2 ^ 62) r (omega arith) not (ready_soon r not.0 (λ a less. elim (started_or_not rows hr holds p plan workers tick g a
      (omega (arith, less, not.0))) [
        | inl s ↦ s.1
        | inr waits ↦ absurd (none_left none n a (omega (arith, less, lt)) waits)
      ]))

  -- a row that waits is due soon
  pub due_soon : (due r : ℕ) → r < length rows → due < 2 ^ 63 → IsReadyFrom rows holds plan due r → due ≤ tick + most_on
  due_soon due r there small from =
      let low = from.least (tick + (length rows + 1) * MOST_TICKS) (ready_low rows hr holds within plan tick come due r there small from.ready) in
      omega (arith, low, hr.not_many)

  -- a worker is free soon
  pub free_soon : (free : List ℕ) → AreFreeFrom rows p plan workers free → (w : ℕ) → w < p → slice_index free w ≤ tick + MOST_TICKS
  free_soon free f w below = elim (f.reached w below) [
    | inl e ↦ omega (arith, e)
    | inr (r, s, on, e) ↦ omega (arith, e, g.come r s, hr.ticks_high r s.0)
  ]

  -- between the tick of the plan and the first at which a row is due none can start, where none can now
  pub none_between : (waiting : List (Reverse (ℕ × ℕ))) (ready : List (Reverse ℕ)) (due : ℕ) → AreQueued rows holds plan waiting ready tick None
      → due < 2 ^ 63 → ((at r : ℕ) → IsIn waiting at r → due ≤ at) → ((b : ℕ) → NotStarted rows plan b → IsReadyBy rows holds plan tick b → ⊥)
      → (t b : ℕ) → t < due → NotStarted rows plan b → IsReadyBy rows holds plan t b → ⊥
  none_between waiting ready due q small least none t b lt not by = elim (q.all t b (omega (arith, lt, small)) not by) [
    | inl e ↦ absurd cc
    | inr (inl i) ↦ none b not (q.are_ready b i).1
    | inr (inr (at, i)) ↦ omega (arith, least at b i, (q.waits at b i).1.least t by, lt)
  ]

  -- where no row waits, and none can start now, none can at all
  pub none_at_all : (waiting : List (Reverse (ℕ × ℕ))) (ready : List (Reverse ℕ)) → AreQueued rows holds plan waiting ready tick None
      → ((at r : ℕ) → IsIn waiting at r → ⊥) → ((b : ℕ) → NotStarted rows plan b → IsReadyBy rows holds plan tick b → ⊥)
      → (r : ℕ) → NotStarted rows plan r → ⊥
  none_at_all waiting ready q empty none r not = none_left (λ t b small waits by. elim (q.all t b small waits by) [
    | inl e ↦ absurd cc
    | inr (inl i) ↦ none b waits (q.are_ready b i).1
    | inr (inr (at, i)) ↦ empty at b i
  ]) (length rows) r not.0 not
