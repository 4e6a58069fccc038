use Rattle.std.proofs.Common.{◌≡◌, ℕ, ◌<◌, ◌≤◌, List, length, get_or, refl, sym, ◌∙◌, ap, subst, arith, Vec, Global}
use Rattle.std.specs.Prelude.{slice_index, slice_set}
use Rattle.std.proofs.lemmas.List.{length-map}
use Rattle.boc_runs.specs.declared.rows.Row.{Row}
use Rattle.boc_plans.specs.Plans.{IsChild}
use Rattle.boc_greedy.specs.declared.children.Change.{Change}
use Rattle.boc_greedy.specs.declared.children.Family.{Family}
use Rattle.boc_greedy.specs.Families.{IsFamilyOf, IsNextChild, AreNext, children_of, times_of}
use Rattle.boc_greedy.proofs.Timing.{child_at}
use Rattle.boc_greedy.proofs.Renewing.{next_still, next_anew}
use Rattle.boc_greedy.proofs.children.next_changes.Goals as goal
use Rattle.boc_greedy.proofs.children.next_changes.Goals.{then-first-len, else-first-len}

-- the first child of a row, as it was read
first_child : (rows : List Row) (f : Family) (row : ℕ) (x : Change) → IsFamilyOf rows f → row < length rows → x ≡ get_or f.first.items row x
    → IsNextChild rows row 1 x.child
first_child rows f row x k there read =
    let listed : row < length f.first.items = omega (arith, there, simp length-map at k.whole) in
    rw (child_at f.first.items row x listed read) at (k.child row there)

pub last_child-last-requires-clause-child : goal.last_child-last-requires-clause-child
last_child-last-requires-clause-child c =
    let own = (first_child c.args.rows.now c.args.family.now c.args.row c.index.result.now c.requires.family c.requires.fits.there c.index.ensures).child
    (omega (arith, c.if-first-len.true, c.len.ensures.count)) in
    rw (sym own.parent) at own

pub returns : goal.returns
returns c =
    let rows : List Row = c.args.rows.now in
    let row : ℕ = c.args.row in
    let k = c.requires.family in
    let old : List Change = c.args.family.now.next.items in
    let listed : c.in_ok-list.list.items ≡ old = c.in_ok-list.ensures.items ∙ c.deref.ensures.value in
    let first = first_child rows c.args.family.now row c.index.result.now k c.requires.fits.there c.index.ensures in
    subst (λ (xs : List Row). AreNext xs (children_of c.if-first-len.list.items) (times_of c.if-first-len.list.items)) (sym c.requires.changed)
    (elim c.if-first-len.branch [
      | then-first-len w ↦ (
          let own = first.child (omega (arith, w.if-first-len.true, c.len.ensures.count)) in
          let last : ℕ = w.last_child-last.result in
          let is_last : IsChild rows row last = rw own.parent at w.last_child-last.ensures.child in
          let none : length rows ≤ slice_index (children_of old) last = rw w.deref-then-first-len.ensures.value at w.last_child-last.ensures.last in
          let there : last < length old = omega (arith, is_last.there, simp length-map at k.are_next.whole) in
          let end : Change = record { child = w.index-then-first-len.result.now.child; after = c.args.ticks } in
          let items : c.if-first-len.list.items ≡ slice_set old last end =
          ap (λ (v : Vec Change Global). v.items) w.list-is ∙ ap (λ (l : List Change). slice_set l last end) listed in
          rw items (next_anew rows row c.args.ticks old k.are_next last is_last none c.requires.fits.there end
          (sym (child_at old last w.index-then-first-len.result.now there (rw listed at w.index-then-first-len.ensures))) refl))
      | else-first-len w ↦ rw (ap (λ (v : Vec Change Global). v.items) w.list-is ∙ listed)
          (next_still rows row c.args.ticks old k.are_next c.index.result.now.child first (omega (arith, w.if-first-len.false, c.len.ensures.count)))
    ])
