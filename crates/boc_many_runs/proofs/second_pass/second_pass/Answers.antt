use Rattle.std.proofs.Common.{◌≡◌, ◌∙◌, ◌++◌, ℕ, List, length, take, drop, ap, subst, sym, arith, ℤ}
use Rattle.std.specs.declared.alloc.Global.{Global}
use Rattle.std.specs.declared.vec.Vec.{Vec}
use Rattle.std.proofs.Math.Seq.{take-append_seam}
use Rattle.boc_many_runs.specs.Runs.{AreColumns, manner}
use Rattle.boc_many_runs.proofs.Rounds.{columns_more, columns_none}
use Rattle.boc_many_runs.proofs.second_pass.second_pass.Goals as goal

pub loop-done-init : goal.loop-done-init
loop-done-init g c = record {
  within = omega arith;
  columns = columns_none c.args.program.now c.args.asked.now (manner c.args.judging.now) c.args.remedies.now c.in_ok-columns.columns.items
      c.in_ok-columns.ensures;
}

-- what was lent comes back whole
back : (was now : List (List ℤ)) (count : ℕ) → count ≡ length now → take count (now ++ drop (length now) was) ≡ now
back was now count e = ap (λ n. take n (now ++ drop (length now) was)) e ∙ take-append_seam now (drop (length now) was)

pub loop-done-preserved : goal.loop-done-preserved
loop-done-preserved g c =
    let m = manner c.args.judging.now in
    let was : List (List ℤ) = c.loop-done.columns.items in
    let now : List (List ℤ) = c.push_runs.new.columns in
    let all : List (Vec ℤ Global) = c.in_ok-all.all.items in
    let step = rw (c.deref.ensures.value, c.deref_mut.ensures.value) at c.in_ok-push_runs.ensures in
    let long : c.loop-done.columns.len ≡ length now =
    omega (arith, c.push_runs.auto.columns, ap (λ (cs : List (List ℤ)). length cs) c.deref_mut.ensures.value, c.loop-done.columns.ok.0) in
    record {
      within = omega (arith, c.min-next.ensures);
      columns = subst (λ (cs : List (List ℤ)). AreColumns c.args.program.now c.args.asked.now m c.args.remedies.now c.min-next.result cs)
          (sym (back was now c.loop-done.columns.len long ∙ step))
          (columns_more c.args.program.now c.args.asked.now m c.args.remedies.now c.loop-done.done c.min-next.result all was
          c.loop-done.invariant.columns c.in_ok-all.ensures);
    }
