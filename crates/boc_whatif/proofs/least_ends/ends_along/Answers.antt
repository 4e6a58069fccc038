use Rattle.std.proofs.Common.{◌≡◌, ℕ, ◌+◌, List, [], ◌∷◌, ◌++◌, sym, subst}
use Rattle.boc_runs.specs.declared.rows.Row.{Row}
use Rattle.boc_plans.specs.Seen.{seen}
use Rattle.boc_whatif.specs.Pieces.{AreEnds}
use Rattle.boc_whatif.proofs.Ends.{one_more}
use Rattle.boc_whatif.proofs.least_ends.ends_along.Goals as goal
use Rattle.boc_whatif.proofs.least_ends.ends_along.Goals.{in-Some+in_ok-go_on, in_default}

pub go_on-requires-clause-course : goal.go_on-requires-clause-course
go_on-requires-clause-course c = (c.args.parts.now.workers, rw c.new-rows.ensures.same c.loop-row.invariant.course)

pub least_end-requires-clause-course : goal.least_end-requires-clause-course
least_end-requires-clause-course c = elim c.match-first_over.branch [
  | in-Some+in_ok-go_on w ↦ rw w.course-is
      ((rw c.new-rows.ensures.same at w.in_ok-go_on.ensures) c.args.parts.now.workers c.loop-row.invariant.course)
  | in_default w ↦ rw w.course-is c.loop-row.invariant.course
]

pub loop-row-preserved : goal.loop-row-preserved
loop-row-preserved c =
    let parts = c.args.parts.now in
    let all : List Row = seen parts.sharing parts.rows.now in
    let row : ℕ = c.loop-row.row in
    let before : List ℕ = c.loop-row.ends.items in
    let items : c.push.new.self.items ≡ before ++ c.in_ok-end.end ∷ [] = c.in_ok-push.ensures.items in
    record {
      ends = subst (AreEnds all parts.workers c.args.from (row + 1)) (sym items)
          (one_more all parts.workers c.args.from row c.in_ok-end.end before c.loop-row.invariant.ends c.in_ok-end.ensures);
      course = elim c.match-first_over.branch [
        | in-Some+in_ok-go_on w ↦ rw w.course-is
            ((rw c.new-rows.ensures.same at w.in_ok-go_on.ensures) parts.workers c.loop-row.invariant.course)
        | in_default w ↦ rw w.course-is c.loop-row.invariant.course
      ];
    }
