use Rattle.std.proofs.Common.{◌∙◌, refl}
use Rattle.boc_timed.proofs.Ended.{is_run}
use Rattle.boc_timed.proofs.timing.timed_run.Goals as goal

pub returns-clause-timed : goal.returns-clause-timed
returns-clause-timed g c =
    is_run c.args.program.now c.args.workers c.play.new.timetable c.in_ok-core.core
    (record {
      «record» = c.in-Ok.record;
      values = c.in_ok-values.values;
      steps = c.steps-steps.result;
      timetable = c.play.new.timetable;
      told = c.play.new.told;
    })
    c.in_ok-core.ensures.plays c.in-Ok.ensures c.rows-rows.ensures.run (c.in_ok-values.ensures.items ∙ c.values.ensures) c.steps-steps.ensures.value refl
