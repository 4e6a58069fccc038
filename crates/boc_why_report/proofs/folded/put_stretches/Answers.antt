use Rattle.std.proofs.Common.{◌∙◌, ◌<◌, All, length, ap, arith, subst, sym}
use Rattle.std.proofs.lemmas.List.{length-drop}
use Rattle.std.proofs.lemmas.List.Elements.{All-drop}
use Rattle.std.proofs.lemmas.List.Sums.{sum_by-take-drop}
use Rattle.boc_plans.specs.declared.chain.ChainStep.{ChainStep}
use Rattle.boc_plans.specs.Chains.{weight_of}
use Rattle.boc_table.specs.Tables.{Grid}
use Rattle.boc_why_report.proofs.Folds.{lines_left}
use Rattle.boc_why_report.proofs.folded.put_stretches.Goals as goal

pub loop-steps_left-preserved : goal.loop-steps_left-preserved
loop-steps_left-preserved c =
    let left = c.loop-steps_left in
    let n = c.stretch_len-count.result in
    record {
      sides = ap (λ (t : Grid). t.sides) c.in_ok-put_stretch.ensures ∙ left.invariant.sides;
      there = subst (All (λ (s : ChainStep). s.row < length c.args.starts.now)) (sym c.split_at.ensures.back)
          (All-drop (λ (s : ChainStep). s.row < length c.args.starts.now) n left.steps_left.now left.invariant.there);
      whole = omega (
        arith,
        ap length c.split_at.ensures.back,
        ap length c.split_at-in-loop-steps_left.ensures.back,
        length-drop n left.steps_left.now,
        length-drop n left.links_left.now,
        left.invariant.whole,
      );
      bounded = omega (
        arith,
        ap weight_of c.split_at.ensures.back,
        sum_by-take-drop (λ (s : ChainStep). s.weight) left.steps_left.now n,
        left.invariant.bounded,
      );
      lines = lines_left c.args.names.now c.args.starts.now left.steps_left.now c.split_at.result.1.now left.links_left.now
          c.split_at-in-loop-steps_left.result.1.now n left.table.lines c.put_stretch.new.table.lines _ left.invariant.whole
          c.split_at.ensures.back c.split_at-in-loop-steps_left.ensures.back (c.stretch_len-count.ensures.first left.links_left.now left.invariant.whole)
          (ap (λ (t : Grid). t.lines) c.in_ok-put_stretch.ensures) left.invariant.lines;
    }
