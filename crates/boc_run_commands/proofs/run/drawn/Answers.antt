use Rattle.std.proofs.Common.{ℕ, subst}
use Rattle.boc_draws.specs.declared.fault.DrawFault.{DrawFault}
use Rattle.boc_draws.specs.declared.fault.DrawFault.TheVariants as faults
use Rattle.boc_run_commands.specs.Schedules.{IsDrawFault, IsDrawnBy}
use Rattle.boc_run_commands.proofs.run.drawn.Goals as goal

pub returns-in-Ok-clause-drawn : goal.returns-in-Ok-clause-drawn
returns-in-Ok-clause-drawn g c =
    subst (λ (n : ℕ). IsDrawnBy c.args.program.now n c.args.seed c.args.depth c.in-Ok.made.record) c.number.ensures.value c.in-Ok.ensures.drawn

pub returns-in-Err-Behaviours-clause-failed : goal.returns-in-Err-Behaviours-clause-failed
returns-in-Err-Behaviours-clause-failed g c =
    subst (λ (n : ℕ). IsDrawFault c.args.program.now n c.args.seed c.args.depth faults.Behaviours) c.number.ensures.value
    (subst (λ (f : DrawFault). IsDrawFault c.args.program.now c.number.result c.args.seed c.args.depth f) c.in-Err-Behaviours.field-0-is
    c.in-Err-Behaviours.ensures.failed)
