use Rattle.std.proofs.Common.{◌≡◌, ℕ, List, ◌++◌, sym, ◌∙◌, ap, subst, arith}
use Rattle.boc_runs.specs.declared.rows.Row.{Row}
use Rattle.boc_whatif.specs.Freed.{AreEndsWithout}
use Rattle.boc_whatif.proofs.FreedEnds.{none_without, both_without, all_without}
use Rattle.boc_whatif.proofs.cown_ends.cown_ends.Goals as goal

pub loop-done-init : goal.loop-done-init
loop-done-init g c = record {
  within = omega arith;
  ends = none_without c.args.rows.now c.args.workers c.in_ok-all.all.items c.in_ok-all.ensures.items;
}

pub loop-done-preserved : goal.loop-done-preserved
loop-done-preserved g c =
    let i = c.loop-done.invariant in
    let rows : List Row = c.args.rows.now in
    let before : List ℕ = c.loop-done.all.items in
    let more : List ℕ = c.in_ok-ends.ends.items in
    let items : c.extend_from_slice.new.self.items ≡ before ++ more =
    c.in_ok-extend_from_slice.ensures.items ∙ ap (λ (l : List ℕ). before ++ l) c.deref.ensures.value in
    record {
      within = omega (arith, c.min-next.ensures);
      ends = subst (AreEndsWithout rows c.args.workers 0 c.min-next.result) (sym items)
          (both_without rows c.args.workers 0 c.loop-done.done c.min-next.result before more i.ends c.in_ok-ends.ensures);
    }

pub returns : goal.returns
returns g c =
    let i = c.loop-done.invariant in
    all_without c.args.rows.now c.args.workers c.loop-done.done c.args.count c.loop-done.all.items i.ends
    (omega (arith, i.within, c.loop-done-test.false))
