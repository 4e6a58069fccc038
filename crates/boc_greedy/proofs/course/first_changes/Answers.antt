use Rattle.std.proofs.Common.{◌≡◌, ◌<◌, ◌∙◌, List, length, ap, sym, subst, refl, arith, Vec, Global}
use Rattle.boc_runs.specs.declared.rows.Row.{Row}
use Rattle.boc_runs.proofs.Editing.{length-edited}
use Rattle.boc_greedy.specs.declared.children.Change.{Change}
use Rattle.boc_greedy.specs.Families.{AreTimed, children_of, times_of}
use Rattle.boc_greedy.proofs.Copying.{same_children, timed_still, timed_anew}
use Rattle.boc_greedy.proofs.course.first_changes.Goals as goal
use Rattle.boc_greedy.proofs.course.first_changes.Goals.{Joined-child-len, then-child-len, else-child-len}

-- the changes that were copied
copied : (c : Joined-child-len) → AreTimed c.args.rows.now (children_of c.in_ok-list.list.items) (times_of c.in_ok-list.list.items)
copied c = rw c.in_ok-list.ensures.items c.requires.timed

listed : (c : Joined-child-len) → c.args.row < length c.in_ok-list.list.items
listed c = omega (arith, ap (length {A = Change}) c.in_ok-list.ensures.items, c.requires.whole, c.requires.fits.there)

counted : (c : Joined-child-len) → length c.args.changed.now ≡ length c.args.rows.now
counted c = ap (length {A = Row}) c.requires.changed ∙ length-edited _ _ _

pub returns-clause-children : goal.returns-clause-children
returns-clause-children c = elim c.if-child-len.branch [
  | then-child-len w ↦ rw c.in_ok-list.ensures.items at (same_children c.args.rows.now c.args.row c.args.ticks c.in_ok-list.list.items c.if-child-len.list.items
      c.index.result.now c.requires.fits.there (listed c) c.index.ensures (copied c) _ refl (ap (λ (v : Vec Change Global). v.items) w.list-is))
  | else-child-len w ↦ (
      let e : c.if-child-len.list.items ≡ c.args.first.now = ap (λ (v : Vec Change Global). v.items) w.list-is ∙ c.in_ok-list.ensures.items in
      rw e (λ a. refl))
]

pub returns-clause-timed : goal.returns-clause-timed
returns-clause-timed c =
    subst (λ (xs : List Row). AreTimed xs (children_of c.if-child-len.list.items) (times_of c.if-child-len.list.items)) (sym c.requires.changed)
    (elim c.if-child-len.branch [
      | then-child-len w ↦ timed_anew c.args.rows.now c.args.row c.args.ticks c.in_ok-list.list.items c.if-child-len.list.items c.index.result.now
          c.requires.fits.there (listed c) c.index.ensures (copied c) _ refl (ap (λ (v : Vec Change Global). v.items) w.list-is)
          (omega (arith, w.if-child-len.true, c.len.ensures.count, counted c)) refl
      | else-child-len w ↦ timed_still c.args.rows.now c.args.row c.args.ticks c.in_ok-list.list.items c.if-child-len.list.items c.index.result.now
          c.requires.fits.there (listed c) c.index.ensures (copied c) (omega (arith, w.if-child-len.false, c.len.ensures.count, counted c))
          (ap (λ (v : Vec Change Global). v.items) w.list-is)
    ])
