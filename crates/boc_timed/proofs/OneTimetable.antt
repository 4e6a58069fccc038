-- Two timed runs of a program by so many workers have one timetable.
use Rattle.std.proofs.Common.{◌≡◌, ℕ, suc, ◌<◌, List, [], ◌∷◌, length, refl, sym, ◌∙◌, ap, subst, arith}
use Rattle.std.specs.Prelude.{slice_get, Some}
use Rattle.boc_program.specs.declared.program.Program.{Program}
use Rattle.boc_program.proofs.ChangedItems.{item_at, place_below}
use Rattle.boc_runs.specs.declared.event.Event.{Event}
use Rattle.boc_runs.specs.Legal.{Entry, entries}
use Rattle.boc_runs.specs.machine.Turns.{Driven}
use Rattle.boc_timed.specs.declared.timing.TimedRun.{TimedRun}
use Rattle.boc_timed.specs.Timed.{IsTimedRun, IsTimetable, StartsAt}
use Rattle.boc_timed.proofs.OneTimed.{one_order, one_run}
use Rattle.boc_timed.proofs.Starts.{one_start}

-- two lists with the same items
same_lists : (xs ys : List ℕ) → length xs ≡ length ys → ((r x y : ℕ) → slice_get xs r ≡ Some x → slice_get ys r ≡ Some y → x ≡ y) → xs ≡ ys
same_lists [] [] long same = refl
same_lists [] (y ∷ ys) long same = absurd (omega (arith, long))
same_lists (x ∷ xs) [] long same = absurd (omega (arith, long))
same_lists (x ∷ xs) (y ∷ ys) long same =
    let first : x ≡ y = same 0 x y refl refl in
    let rest : xs ≡ ys = same_lists xs ys (omega (arith, long)) (λ r v w a b. same (suc r) v w a b) in
    λ i. first i ∷ rest i

module _ (p : Program) (workers : ℕ) (a b : TimedRun) (x : IsTimedRun p workers a) (y : IsTimedRun p workers b) where
  rows_same : length a.record.rows ≡ length b.record.rows
  rows_same =
      x.whole.rows_are.all
      ∙ ap (λ (log : List Event). length {A = Entry} (entries log)) (x.events ∙ ap (λ (d : Driven). d.state.log) (one_run p workers a b x y) ∙ sym y.events)
      ∙ sym y.whole.rows_are.all

  abbrev one : IsTimetable p workers x.choices (length a.record.rows) a.timetable.starts.items a.timetable.workers.items
  one = x.scheduled.are

  abbrev other : IsTimetable p workers y.choices (length b.record.rows) b.timetable.starts.items b.timetable.workers.items
  other = y.scheduled.are

  same_start : (row time worker at on : ℕ) → slice_get a.timetable.starts.items row ≡ Some time → slice_get a.timetable.workers.items row ≡ Some worker
      → slice_get b.timetable.starts.items row ≡ Some at → slice_get b.timetable.workers.items row ≡ Some on → (time ≡ at) × (worker ≡ on)
  same_start row time worker at on a_time a_on b_time b_on =
      one_start p workers x.choices row time worker at on (one.at row time worker a_time a_on)
      (subst (λ (cs : List ℕ). StartsAt p workers cs row at on) (sym (one_order p workers a b x y)) (other.at row at on b_time b_on))

  pub one_timetable : (a.timetable.starts.items ≡ b.timetable.starts.items) × (a.timetable.workers.items ≡ b.timetable.workers.items)
  one_timetable = (
    same_lists a.timetable.starts.items b.timetable.starts.items (one.whole ∙ rows_same ∙ sym other.whole)
        (λ row time at a_time b_time.
        let low : row < length a.record.rows = omega (arith, place_below a.timetable.starts.items row time a_time, one.whole) in
        let worker = item_at a.timetable.workers.items row (omega (arith, low, one.all_served)) in
        let on = item_at b.timetable.workers.items row (omega (arith, low, rows_same, other.all_served)) in
        (same_start row time worker.0 at on.0 a_time worker.1 b_time on.1).0),
    same_lists a.timetable.workers.items b.timetable.workers.items (one.all_served ∙ rows_same ∙ sym other.all_served)
        (λ row worker on a_on b_on.
        let low : row < length a.record.rows = omega (arith, place_below a.timetable.workers.items row worker a_on, one.all_served) in
        let time = item_at a.timetable.starts.items row (omega (arith, low, one.whole)) in
        let at = item_at b.timetable.starts.items row (omega (arith, low, rows_same, other.whole)) in
        (same_start row time.0 worker at.0 on time.1 a_on at.1 b_on).1),
  )
