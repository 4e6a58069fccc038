-- The course, once the next row is placed.
use Rattle.std.proofs.Common.{◌≡◌, ℕ, ◌+◌, ◌-◌, ◌<◌, ◌≤◌, max, Bool, List, [], ◌∷◌, ◌++◌, length, take, drop, Option, refl, ap, ◌∙◌, arith}
use Rattle.std.specs.Prelude.{All, vec_capacity}
use Rattle.std.specs.List.{fold}
use Rattle.std.proofs.lemmas.List.{length-append, take_all}
use Rattle.std.proofs.Math.Seq.{drop-append_seam}
use Rattle.boc_runs.specs.declared.rows.Row.{Row}
use Rattle.boc_runs.specs.Rows.{IsRows, parent_of, offset_of, ticks_of, cowns_of}
use Rattle.boc_uses.specs.declared.uses.Use.{Use}
use Rattle.boc_turns.specs.declared.pace.Wait.{Wait}
use Rattle.boc_turns.specs.declared.pace.Pace.{Pace}
use Rattle.boc_turns.specs.declared.coming.Coming.{Coming}
use Rattle.boc_turns.specs.declared.course.Course.{Course}
use Rattle.boc_turns.specs.Pace.{made_by, started, waited, noted, left_of, left_written, latest, IsLow, IsLowComing}
use Rattle.boc_turns.specs.Turns.{cowns_before, AreUses}
use Rattle.boc_turns.specs.Course.{marked, made_in, AreComing, HasCourse}
use Rattle.boc_turns.proofs.Arriving.{all_long, waits_added}
use Rattle.boc_turns.proofs.Counting.{before_more, own_enough}
use Rattle.boc_turns.proofs.Spawning.{made_in_is}
use Rattle.boc_turns.proofs.Coursing.{all_low, is_low, last_next, paces_next, passed_next, others}

-- the part of all waits that was added
own_slice : (kept added new : List Wait) (first : ℕ) → new ≡ kept ++ added → first ≡ length kept → take (length new - first) (drop first new) ≡ added
own_slice kept added new first is at = rw (is, at, drop-append_seam kept added)
    (take_all (length (kept ++ added) - length kept) added (omega (arith, length-append kept added)))

module _ (rows : List Row) (hr : IsRows rows) (uses : List (Option Use)) (are : AreUses rows uses) (marks : List Bool) (n : ℕ) (there : n < length rows)
    (course : Course) (has : HasCourse rows uses (marked marks) n course) (coming : List Coming)
    (come : AreComing rows marks (drop (cowns_before rows n) uses) course.held.items course.wrote.items n (length (cowns_of rows n)) coming)
    (spawned start : ℕ) (main : n ≡ 0 → spawned ≡ 0) (child : 0 < n → spawned ≡ made_in course (parent_of rows n) (offset_of rows n))
    (start_is : start ≡ fold started spawned coming) where
  abbrev added : List Wait
  added = fold waited [] coming

  pub enough : length (cowns_of rows n) ≤ length (drop (cowns_before rows n) uses)
  enough = own_enough rows uses are n there

  pub born : 0 < n → spawned ≡ has.times.made (parent_of rows n) (offset_of rows n)
  born above = child above ∙ made_in_is has.times n course has.have_paces (parent_of rows n) (hr.parent_before n above there) (offset_of rows n)

  pub low_coming : All IsLowComing coming
  low_coming = all_low rows hr uses are marks has.times n there course.held.items course.wrote.items has.have_passed coming enough come spawned start main born
      start_is added refl

  pub low_waits : IsLow start added
  low_waits = is_low rows hr uses are marks has.times n there course.held.items course.wrote.items has.have_passed coming enough come spawned start main born
      start_is added refl

  pub slice_is : (new : List Wait) (first : ℕ) → new ≡ fold waited course.waits.items coming → first ≡ length course.waits.items
      → take (length new - first) (drop first new) ≡ added
  slice_is new first is at = own_slice course.waits.items added new first (is ∙ waits_added course.waits.items coming) at

  module _ (end left : ℕ) (end_is : end ≡ made_by start added (ticks_of rows n)) (pace : Pace) (next : Course) where
    pub course_next : next.held.items ≡ fold (λ ticks x. noted x.cown (left_of start added end x) ticks) course.held.items coming
        → next.wrote.items ≡ fold (λ ticks x. noted x.cown (left_written start added end x) ticks) course.wrote.items coming
        → left ≡ fold (λ last x. latest (left_of start added end x) last) end coming → next.last ≡ max course.last left
        → next.paces.items ≡ course.paces.items ++ pace ∷ [] → pace.start ≡ start → pace.first ≡ length course.waits.items
        → pace.end ≡ length next.waits.items → next.waits.items ≡ fold waited course.waits.items coming → length rows ≤ vec_capacity next.paces
        → next.passed ≡ course.passed + length coming → HasCourse rows uses (marked marks) (n + 1) next
    course_next held_is wrote_is left_is last_is paces_are start_at first_at end_at waits_are room passed =
        let all : next.waits.items ≡ course.waits.items ++ added = waits_are ∙ waits_added course.waits.items coming in
        record {
          times = others rows hr uses are marks has.times n there course.held.items course.wrote.items has.have_passed coming enough come spawned start main
              born start_is added refl;
          have_passed = passed_next rows hr uses are marks has.times n there course.held.items course.wrote.items has.have_passed coming enough come spawned
              start main born start_is added refl end end_is next.held.items next.wrote.items has.held_whole has.wrote_whole held_is wrote_is;
          is_last = last_next rows hr uses are marks has.times n there course.held.items course.wrote.items has.have_passed coming enough come spawned start
              main born start_is added refl end end_is course.last left next.last left_is last_is has.is_last;
          have_paces = rw (paces_are, all) (paces_next rows hr uses are marks has.times n there course.held.items course.wrote.items has.have_passed coming
              enough come spawned start main born start_is added refl end end_is course.paces.items course.waits.items pace start_at first_at
              (end_at ∙ ap (length {A = Wait}) all) has.have_paces);
          enough = room;
          held_whole = ap (length {A = ℕ}) held_is ∙ (all_long (λ x. left_of start added end x) course.held.items coming ∙ has.held_whole);
          wrote_whole = ap (length {A = ℕ}) wrote_is ∙ (all_long (λ x. left_written start added end x) course.wrote.items coming ∙ has.wrote_whole);
          passed_is = omega (arith, passed, has.passed_is, come.whole, before_more rows n there);
        }
