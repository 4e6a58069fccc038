use Rattle.std.proofs.Common.{◌≡◌, ◌++◌, List, arith, subst}
use Rattle.boc_many_runs.specs.declared.seen.Numbers.{Numbers}
use Rattle.boc_many_runs.specs.Runs.{manner}
use Rattle.boc_many_runs.proofs.Rounds.{numbers_more, numbers_none}
use Rattle.boc_many_runs.proofs.many_numbers.numbers_of_runs.Goals as goal

pub loop-done-init : goal.loop-done-init
loop-done-init g c = record {
  within = omega arith;
  numbers = numbers_none c.args.program.now c.args.asked.now (manner c.args.judging.now) c.in_ok-all.all.items c.in_ok-all.ensures.items;
}

pub loop-done-preserved : goal.loop-done-preserved
loop-done-preserved g c =
    let was : List Numbers = c.loop-done.all.items in
    let now : List Numbers = c.extend_from_slice.new.self.items in
    record {
      within = omega (arith, c.min-next.ensures);
      numbers = numbers_more c.args.program.now c.args.asked.now (manner c.args.judging.now) c.loop-done.done c.min-next.result c.in_ok-more.more.items was
          now c.loop-done.invariant.numbers c.in_ok-more.ensures
          (subst (λ (l : List Numbers). now ≡ was ++ l) c.deref.ensures.value c.in_ok-extend_from_slice.ensures.items);
    }
