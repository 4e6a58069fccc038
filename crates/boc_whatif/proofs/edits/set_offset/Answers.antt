use Rattle.std.proofs.Common.{◌≡◌, ◌<◌, ℕ, List, length, get_or, ap, sym, ◌∙◌, subst, arith}
use Rattle.boc_runs.specs.declared.rows.Row.{Row}
use Rattle.boc_runs.specs.Rows.{IsLast, parent_of, offset_of}
use Rattle.boc_runs.proofs.Moving.{length-moved, parent_of-moved, offset_of-moved_other}
use Rattle.boc_runs.proofs.NextChildren.{siblings_stay}
use Rattle.boc_whatif.proofs.Between.{read_parent}
use Rattle.boc_whatif.proofs.Changing.{lasts_put}
use Rattle.boc_whatif.proofs.edits.set_offset.Goals as goal

pub last_child-requires-clause-siblings : goal.last_child-requires-clause-siblings
last_child-requires-clause-siblings c =
    let rows = c.args.rows.now in
    let row : ℕ = c.args.row in
    let is = c.set_offset.ensures in
    rw c.as_slice-3.ensures.same (siblings_stay rows c.set_offset.new.self (ap (length {A = Row}) is ∙ length-moved rows row c.args.offset)
    (λ r. ap (λ (list : List Row). parent_of list r) is ∙ parent_of-moved rows row c.args.offset r) c.args.siblings.now c.requires.siblings)

pub last_child-requires-clause-there : goal.last_child-requires-clause-there
last_child-requires-clause-there c =
    let rows = c.args.rows.now in
    let parent = read_parent rows c.as_slice-2.result.now c.as_slice-2.ensures.same c.as_slice-2.ensures.shape c.args.row c.index-as_slice-row.result
    c.requires.there c.index-as_slice-row.is in
    rw c.as_slice-3.ensures.same (omega (arith, parent.1, ap (length {A = Row}) c.set_offset.ensures, length-moved rows c.args.row c.args.offset))

pub bounds-lasts-parent : goal.bounds-lasts-parent
bounds-lasts-parent c =
    let parent = read_parent c.args.rows.now c.as_slice-2.result.now c.as_slice-2.ensures.same c.as_slice-2.ensures.shape c.args.row
    c.index-as_slice-row.result c.requires.there c.index-as_slice-row.is in
    omega (arith, parent.1, c.requires.lasts.whole)

pub returns-clause-lasts : goal.returns-clause-lasts
returns-clause-lasts c =
    let rows = c.args.rows.now in
    let row : ℕ = c.args.row in
    let after = c.set_offset.new.self in
    let is = c.set_offset.ensures in
    let p : ℕ = (get_or c.as_slice-2.result.now row c.index-as_slice-row.result).parent in
    let parent = read_parent rows c.as_slice-2.result.now c.as_slice-2.ensures.same c.as_slice-2.ensures.shape row c.index-as_slice-row.result
    c.requires.there c.index-as_slice-row.is in
    lasts_put rows after c.args.lasts.now p c.last_child.result c.requires.lasts (ap (length {A = Row}) is ∙ length-moved rows row c.args.offset)
    (λ r. ap (λ (list : List Row). parent_of list r) is ∙ parent_of-moved rows row c.args.offset r)
    (λ b some here other. ap (λ (list : List Row). offset_of list b) is ∙ offset_of-moved_other rows row c.args.offset b
    (λ (e : b ≡ row). other (ap (parent_of rows) e ∙ parent.0)))
    (subst (λ (list : List Row). IsLast list (length list) p c.last_child.result) c.as_slice-3.ensures.same c.last_child.ensures) parent.1
