use Rattle.std.proofs.Common.{ℕ, sym, subst}
use Rattle.boc_eager.specs.Courses.{IsBefore}
use Rattle.boc_eager.proofs.Finishing.{fewer_left, kept_low}
use Rattle.boc_eager.proofs.course.Course.finish.Goals as goal

pub loop-row-smaller : goal.loop-row-smaller
loop-row-smaller c =
    let rows = c.args.rows.now in
    let old = c.loop-row.self in
    let mid = c.go_on.new.self in
    let new = c.look.new.self in
    let k = c.loop-row.invariant in
    let g = c.in-Some.ensures.next rows c.requires.shape k in
    let l = c.in_ok-look.ensures in
    let before = subst (λ (t : ℕ). IsBefore old.tick old.row t new.row) (sym l.tick)
    (subst (λ (r : ℕ). IsBefore old.tick old.row mid.tick r) (sym l.row) g.after) in
    fewer_left old.tick old.row new.tick new.row before (kept_low rows new c.requires.shape l.kept).0 (kept_low rows old c.requires.shape k).1
    (kept_low rows new c.requires.shape l.kept).1
