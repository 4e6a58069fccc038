use Rattle.std.proofs.Common.{◌<◌, ◌≤◌, arith, rules, take}
use Rattle.std.proofs.lemmas.List.Elements.{All-more}
use Rattle.boc_lines.proofs.Lining.{all_taken, larger}
use Rattle.boc_lines.proofs.by_line.end_of.Goals as goal

pub loop-line-preserved : goal.loop-line-preserved
loop-line-preserved c =
    let grows : c.loop-line.end ≤ c.max-end.result = search rules in
    record {
      few = search rules;
      below = All-more (λ line. line < c.max-end.result) c.args.lines.now c.loop-line.line-index 0 c.loop-line-test.true
          (larger c.loop-line.end c.max-end.result (take c.loop-line.line-index c.args.lines.now) grows c.loop-line.invariant.below) (search rules);
    }

pub returns-clause-below : goal.returns-clause-below
returns-clause-below c = all_taken c.loop-line.end c.args.lines.now c.loop-line.line-index (omega (arith, c.loop-line-test.false)) c.loop-line.invariant.below
