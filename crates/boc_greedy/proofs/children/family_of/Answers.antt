use Rattle.std.proofs.Common.{◌≡◌, ℕ, ◌-◌, ◌<◌, length, sym, subst, arith}
use Rattle.std.specs.Prelude.{slice_index, slice_set}
use Rattle.std.proofs.lemmas.List.{length-map}
use Rattle.boc_runs.specs.Rows.{parent_of, offset_of}
use Rattle.boc_greedy.specs.declared.children.Change.{Change}
use Rattle.boc_greedy.specs.Families.{children_of, times_of}
use Rattle.boc_greedy.proofs.Puts.{Puts}
use Rattle.boc_greedy.proofs.Timing.{child_at, time_at, puts_child, puts_time}
use Rattle.boc_greedy.proofs.Following.{found_more}
use Rattle.boc_greedy.proofs.children.family_of.Goals as goal

pub loop-row-2-preserved : goal.loop-row-2-preserved
loop-row-2-preserved c =
    let i = c.loop-row-2.invariant in
    let rows = c.args.rows.now in
    let xs = c.loop-row-2.first.items in
    let ys = c.loop-row-2.next.items in
    let row : ℕ = c.loop-row-2.row - 1 in
    let parent : ℕ = c.parent-parent.result in
    let spawn : Change = record { child = row; after = c.offset.result } in
    let found : Change = c.index.result.now in
    let h : row < length rows = omega (arith, i.within, c.loop-row-2-test.true) in
    let pos : 0 < row = omega (arith, c.loop-row-2-test.true) in
    let parent_is : parent_of rows row ≡ parent = sym c.parent-parent.ensures in
    let low : parent < length xs = omega (arith, parent_is, c.requires.parent_before row pos h, h, simp length-map at i.first_whole) in
    let there : row < length ys = omega (arith, h, simp length-map at i.next_whole) in
    let pt : Puts (times_of xs) (times_of (slice_set xs parent spawn)) parent (offset_of rows row) =
    subst (λ (o : ℕ). Puts (times_of xs) (times_of (slice_set xs parent spawn)) parent o) c.offset.ensures (puts_time xs parent spawn low) in
    let pn : Puts (children_of ys) (children_of (slice_set ys row found)) row (slice_index (children_of xs) parent) =
    subst (λ (o : ℕ). Puts (children_of ys) (children_of (slice_set ys row found)) row o) (sym (child_at xs parent found low c.index.ensures))
    (puts_child ys row found there) in
    let pnt : Puts (times_of ys) (times_of (slice_set ys row found)) row (slice_index (times_of xs) parent) =
    subst (λ (o : ℕ). Puts (times_of ys) (times_of (slice_set ys row found)) row o) (sym (time_at xs parent found low c.index.ensures))
    (puts_time ys row found there) in
    found_more rows c.requires _ _ _ _ _ _ _ _ _ row parent i (omega (arith, c.loop-row-2-test.true)) pos parent_is (puts_child xs parent spawn low) pt pn pnt
