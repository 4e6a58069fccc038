use Rattle.std.proofs.Common.{◌≡◌, ◌+◌, length, Bool, List, sym, subst, arith}
use Rattle.std.proofs.lemmas.List.{with_items_is}
use Rattle.boc_program.specs.declared.limits.TheConstants.{MOST_COWNS}
use Rattle.boc_sweep.specs.Passes.{TellHad}
use Rattle.boc_sweep.proofs.passes.all_had.Goals as goal

pub loop-row-init : goal.loop-row-init
loop-row-init c = record {
  whole = omega (arith, c.in_ok-had.ensures.len, c.in_ok-had.had.ok.0);
  told = λ cown low untold r h. absurd (omega (arith, h));
}

pub tell_had-requires-clause-before : goal.tell_had-requires-clause-before
tell_had-requires-clause-before c = rw c.deref_mut.ensures.value c.loop-row.invariant.told

pub loop-row-preserved : goal.loop-row-preserved
loop-row-preserved c =
    let had = c.tell_had.ensures in
    let is = with_items_is c.loop-row.had c.tell_had.new.had (omega (arith, had.whole, c.loop-row.invariant.whole, c.loop-row.had.ok.0)) in
    record {
      whole = subst (λ (l : List Bool). length l ≡ MOST_COWNS) (sym is) had.whole;
      told = subst (TellHad c.args.rows.now (c.loop-row.row + 1)) (sym is) had.told;
    }

pub returns-clause-told : goal.returns-clause-told
returns-clause-told c =
    let all : c.loop-row.row ≡ length c.args.rows.now = omega (arith, c.loop-row-test.false, c.loop-row.auto.row-end, c.len-row-end.ensures.count) in
    rw all at c.loop-row.invariant.told
