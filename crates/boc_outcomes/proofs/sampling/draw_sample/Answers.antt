use Rattle.std.proofs.Common.{ℕ, ◌≡◌, ◌∙◌, List, length, refl, ap, subst}
use Rattle.std.specs.Prelude.{Ok}
use Rattle.boc_runs.specs.declared.rows.Row.{Row}
use Rattle.boc_plans.specs.declared.sharing.Sharing.TheVariants.{Exclusive}
use Rattle.boc_plans.specs.Greedy.{IsSpan}
use Rattle.boc_plans.specs.Seen.{seen}
use Rattle.boc_plans.proofs.Seeing.{length-seen}
use Rattle.boc_draws.specs.Draws.{IsDraw}
use Rattle.boc_outcomes.proofs.sampling.draw_sample.Goals as goal

pub returns : goal.returns
returns c =
    let asked = c.args.asked.now in
    let rows : List Row = c.in_ok-drawn.drawn.record.rows in
    let same : c.new-rows.result ≡ seen Exclusive rows = c.new-rows.ensures.same ∙ ap (seen Exclusive) c.rows.ensures.value in
    record {
      drawn = c.in_ok-drawn.drawn;
      is_draw = subst (λ (seed : ℕ). IsDraw c.args.program.now asked.workers asked.way seed (Ok c.in_ok-drawn.drawn)) c.seed_of.ensures
          c.in_ok-drawn.ensures.draw;
      values_are = refl;
      rows_are = c.len.ensures.count ∙ ap (λ (l : List Row). length l) same ∙ length-seen Exclusive rows;
      span_is = subst (λ (l : List Row). IsSpan l c.span.result) same
          (c.span.ensures c.new-rows.result c.new-rows.ensures.shape c.in_ok-plan.ensures.placed);
    }
