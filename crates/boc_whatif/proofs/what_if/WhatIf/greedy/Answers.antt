use Rattle.std.proofs.Common.{◌∙◌, IfOk, ap, sym, subst}
use Rattle.boc_plans.specs.Seen.{seen}
use Rattle.boc_plans.specs.Plans.{work_of}
use Rattle.boc_plans.specs.Greedy.{IsSpan}
use Rattle.boc_plans.proofs.Seeing.{work_of-seen}
use Rattle.boc_greedy.specs.Plans.{IsGreedyPlanOf}
use Rattle.boc_whatif.specs.Asked.{Asked}
use Rattle.boc_whatif.proofs.what_if.WhatIf.greedy.Goals as goal

pub greedy_over-requires-clause-work : goal.greedy_over-requires-clause-work
greedy_over-requires-clause-work c =
    rw c.new-rows.ensures.same (c.work.ensures ∙ ap (λ (a : Asked). work_of a.rows) (sym c.self.view_is)
    ∙ sym (work_of-seen c.self.inside.sharing c.self.inside.rows))

pub greedy_over-requires-clause-span : goal.greedy_over-requires-clause-span
greedy_over-requires-clause-span c =
    rw c.new-rows.ensures.same (subst (λ (a : Asked). IsSpan (seen a.sharing a.rows) c.span.result) (sym c.self.view_is) c.span.ensures)

pub returns : goal.returns
returns c =
    subst (λ (a : Asked). IfOk c.greedy_over.result (λ plan. IsGreedyPlanOf (seen a.sharing a.rows) c.args.workers plan)) c.self.view_is
    (rw c.new-rows.ensures.same at c.greedy_over.ensures)
