use Rattle.std.proofs.Common.{◌≡◌, ◌∙◌, List, ap, subst}
use Rattle.boc_runs.specs.declared.rows.Row.{Row}
use Rattle.boc_plans.specs.Greedy.{IsSpan}
use Rattle.boc_plans.specs.Seen.{seen}
use Rattle.boc_many_runs.proofs.single.single_span.Goals as goal

pub returns : goal.returns
returns c =
    let rows : List Row = c.in_ok-drawn.drawn.record.rows in
    let same : c.new-rows.result ≡ seen c.args.sharing rows = c.new-rows.ensures.same ∙ ap (seen c.args.sharing) c.rows.ensures.value in
    record {
      drawn = c.in_ok-drawn.drawn;
      is_draw = c.in_ok-drawn.ensures.draw;
      is_span = subst (λ (l : List Row). IsSpan l c.span.result) same
          (c.span.ensures c.new-rows.result c.new-rows.ensures.shape c.in_ok-plan.ensures.placed);
    }
