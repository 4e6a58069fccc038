use Rattle.std.proofs.Common.{◌≡◌, ℕ, List, ◌++◌, length, sym, ◌∙◌, ap, subst, arith}
use Rattle.boc_runs.specs.declared.rows.Row.{Row}
use Rattle.boc_plans.specs.Seen.{seen}
use Rattle.boc_plans.proofs.Seeing.{length-seen}
use Rattle.boc_whatif.specs.Pieces.{AreEnds}
use Rattle.boc_whatif.proofs.Ends.{both, all_of}
use Rattle.boc_whatif.proofs.least_ends.all_ends.Goals as goal
use Rattle.boc_whatif.proofs.least_ends.all_ends.Goals.{in-Some+in_ok-go_on, in_default}

pub returns : goal.returns
returns g c =
    let parts = c.args.parts.now in
    let i = c.loop-done.invariant in
    let count : length c.as_slice-count.result.now ≡ length parts.rows.now = ap (length {A = Row}) c.as_slice-count.ensures.same in
    all_of _ _ _ _ i.ends (omega (arith, i.within, c.loop-done-test.false, count, length-seen parts.sharing parts.rows.now))

pub ends_between-requires-clause-course : goal.ends_between-requires-clause-course
ends_between-requires-clause-course g c κs within = elim c.match-first_over.branch [
  | in-Some+in_ok-go_on w ↦ rw w.course-is
      ((rw c.new-rows.ensures.same at w.in_ok-go_on.ensures) c.args.parts.now.workers c.loop-done.invariant.course)
  | in_default w ↦ rw w.course-is c.loop-done.invariant.course
]

pub loop-done-preserved : goal.loop-done-preserved
loop-done-preserved g c =
    let parts = c.args.parts.now in
    let i = c.loop-done.invariant in
    let all : List Row = seen parts.sharing parts.rows.now in
    let before : List ℕ = c.loop-done.all.items in
    let more : List ℕ = c.in_ok-ends.ends.items in
    let items : c.extend_from_slice.new.self.items ≡ before ++ more =
    c.in_ok-extend_from_slice.ensures.items ∙ ap (λ (l : List ℕ). before ++ l) c.deref.ensures.value in
    record {
      within = c.behind_stretch-next.ensures.within;
      ends = subst (AreEnds all parts.workers 0 c.behind_stretch-next.result) (sym items)
          (both all parts.workers 0 c.loop-done.done c.behind_stretch-next.result before more i.ends c.in_ok-ends.ensures);
      course = elim c.match-first_over.branch [
        | in-Some+in_ok-go_on w ↦ rw w.course-is ((rw c.new-rows.ensures.same at w.in_ok-go_on.ensures) parts.workers i.course)
        | in_default w ↦ rw w.course-is i.course
      ];
    }
