use Rattle.std.proofs.Common.{◌∙◌, IfOk, ap, sym, subst}
use Rattle.boc_plans.specs.Seen.{seen}
use Rattle.boc_plans.specs.Plans.{work_of}
use Rattle.boc_plans.specs.Greedy.{IsSpan}
use Rattle.boc_plans.proofs.Seeing.{work_of-seen}
use Rattle.boc_greedy.specs.Curves.{IsCurve}
use Rattle.boc_whatif.specs.Asked.{Asked}
use Rattle.boc_whatif.proofs.what_if.WhatIf.curve.Goals as goal

pub curve_over-requires-clause-work : goal.curve_over-requires-clause-work
curve_over-requires-clause-work g c κs within =
    rw c.new-rows.ensures.same (c.work-work.ensures ∙ ap (λ (a : Asked). work_of a.rows) (sym c.self.view_is)
    ∙ sym (work_of-seen c.self.inside.sharing c.self.inside.rows))

pub curve_over-requires-clause-span : goal.curve_over-requires-clause-span
curve_over-requires-clause-span g c κs within =
    rw c.new-rows.ensures.same (subst (λ (a : Asked). IsSpan (seen a.sharing a.rows) c.span-span.result) (sym c.self.view_is) c.span-span.ensures)

pub returns : goal.returns
returns g c =
    subst (λ (a : Asked). IfOk c.curve_over.result (λ points. IsCurve (seen a.sharing a.rows) c.args.most points.items)) c.self.view_is
    (rw c.new-rows.ensures.same at c.curve_over.ensures)
