use Rattle.std.proofs.Common.{◌≡◌, ◌∙◌, ℕ, ap, subst, sym}
use Rattle.std.specs.Prelude.{Some}
use Rattle.boc_dispatch.specs.declared.worker.Due.{Due}
use Rattle.boc_dispatch.specs.declared.worker.Due.TheVariants as dues
use Rattle.boc_dispatch.specs.declared.worker.Hand.{Hand}
use Rattle.boc_dispatch.specs.declared.worker.Hand.TheVariants as hands
use Rattle.boc_dispatch.specs.Driving.{HandFits}
use Rattle.boc_dispatch.specs.NextCalls.{CallsAt, TellsCallOf}
use Rattle.boc_dispatch.specs.Working.{row_in}
use Rattle.boc_dispatch.proofs.NextCalls.{wishing_calls, end_calls, framed_calls_not, others_call_not}
use Rattle.boc_dispatch.proofs.worker.Worker.call_at.Goals as goal

pub returns-in-Wishing : goal.returns-in-Wishing
returns-in-Wishing c u sound fits thought =
    let row = c.in-Framed.field-0 in
    let f = c.in-Framed.frame in
    let is : c.args.self.now.hand ≡ hands.Framed row f dues.Wishing = c.in-Framed.is ∙ ap (λ (d : Due). hands.Framed row f d) c.in-Wishing.is in
    subst (λ (h : Hand). TellsCallOf u.program u.state (row_in h) c.offset_of.result) (sym is)
    (wishing_calls u row f c.offset_of.result (subst (HandFits u) is fits) c.offset_of.ensures)

pub returns-in_default-due : goal.returns-in_default-due
returns-in_default-due c u sound fits thought =
    framed_calls_not u c.args.self.now.hand c.in-Framed.field-0 c.in-Framed.frame c.in-Framed.due c.in-Framed.is fits thought c.in_default-due.not-Wishing

pub returns-in-Done : goal.returns-in-Done
returns-in-Done c u sound fits thought =
    let row = c.in-Done.field-0 in
    let o = c.in-Done.outcome in
    subst (λ (h : Hand). TellsCallOf u.program u.state (row_in h) (Some c.ticks.result)) (sym c.in-Done.is)
    (subst (λ (n : ℕ). CallsAt u.program u.state row n) (sym c.ticks.ensures.value)
    (end_calls u row o (subst (HandFits u) c.in-Done.is fits) c.ticks.ensures.meaning))

pub returns-in_default : goal.returns-in_default
returns-in_default c u sound fits thought =
    others_call_not u c.args.self.now.hand sound fits thought c.in_default.not-Framed c.in_default.not-Done
