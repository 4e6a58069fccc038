use Rattle.std.proofs.Common.{Ok, Err, refl, subst}
use Rattle.boc_program.specs.declared.program.Program.{Program}
use Rattle.boc_runs.specs.Run.{config_of}
use Rattle.boc_eval.specs.Instances.{AreRight}
use Rattle.boc_draws.specs.declared.fault.DrawFault.TheVariants as faults
use Rattle.boc_draws.specs.Draws.{IsDraw}
use Rattle.boc_draws.specs.Ways.{AnswersWay}
use Rattle.boc_run_commands.specs.Schedules.{IsDrawFault, counting, drawing}
use Rattle.boc_run_commands.proofs.Seeding.{no_memory, passed_fault}
use Rattle.boc_run_commands.proofs.run.draw_at_depth.Goals as goal

pub returns-in_err-compiled-clause-failed : goal.returns-in_err-compiled-clause-failed
returns-in_err-compiled-clause-failed g c =
    passed_fault (IsDrawFault c.args.program.now c.args.workers c.args.seed c.args.depth) c.from_residual.result faults.Memory c.from_residual.ensures.1
    (no_memory c.args.program.now c.args.workers c.args.seed c.args.depth)

pub returns-in_err-way-clause-failed : goal.returns-in_err-way-clause-failed
returns-in_err-way-clause-failed g c =
    passed_fault (IsDrawFault c.args.program.now c.args.workers c.args.seed c.args.depth) c.from_residual-in_err-way.result c.in_err-way.field-0.0
    c.from_residual-in_err-way.ensures.1
    (counting (subst (λ (p : Program). AnswersWay p c.args.workers c.args.depth (Err c.in_err-way.field-0.0)) c.in_ok-compiled.ensures
    c.in_err-way.ensures))

pub returns-in_err-drawn-clause-failed : goal.returns-in_err-drawn-clause-failed
returns-in_err-drawn-clause-failed g c =
    passed_fault (IsDrawFault c.args.program.now c.args.workers c.args.seed c.args.depth) c.from_residual-in_err-drawn.result c.in_err-drawn.field-0.0
    c.from_residual-in_err-drawn.ensures.1
    (drawing c.in_ok-way.way
    (subst (λ (p : Program). AnswersWay p c.args.workers c.args.depth (Ok c.in_ok-way.way)) c.in_ok-compiled.ensures c.in_ok-way.ensures)
    (subst (λ (p : Program). IsDraw p c.args.workers c.in_ok-way.way c.args.seed (Err c.in_err-drawn.field-0.0)) c.in_ok-compiled.ensures
    c.in_err-drawn.ensures.draw))

pub returns-clause-drawn : goal.returns-clause-drawn
returns-clause-drawn g c = record {
  way = c.in_ok-way.way;
  is_way = subst (λ (p : Program). AnswersWay p c.args.workers c.args.depth (Ok c.in_ok-way.way)) c.in_ok-compiled.ensures c.in_ok-way.ensures;
  drawn = c.in_ok-drawn.drawn;
  is = subst (λ (p : Program). IsDraw p c.args.workers c.in_ok-way.way c.args.seed (Ok c.in_ok-drawn.drawn)) c.in_ok-compiled.ensures
      c.in_ok-drawn.ensures.draw;
  same = refl;
}

pub returns-clause-told : goal.returns-clause-told
returns-clause-told g c =
    subst (λ (p : Program). AreRight (config_of p c.in_ok-drawn.drawn.record.events).members c.in_ok-drawn.drawn.told.items) c.in_ok-compiled.ensures
    c.in_ok-drawn.ensures.told
