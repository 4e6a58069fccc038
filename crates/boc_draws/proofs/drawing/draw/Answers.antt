use Rattle.std.proofs.Common.{◌∙◌}
use Rattle.boc_draws.proofs.Ended.{is_drawn}
use Rattle.boc_draws.proofs.drawing.draw.Goals as goal

pub returns-clause-draw : goal.returns-clause-draw
returns-clause-draw g c =
    is_drawn c.args.program.now c.args.workers c.args.way c.args.seed c.in_ok-core.core
    (record { «record» = c.in-Ok.record; values = c.in_ok-values.values; steps = c.steps-steps.result; told = c.play.new.told }) c.in_ok-core.ensures.plays c.in-Ok.ensures
    c.rows-rows.ensures.run (c.in_ok-values.ensures.items ∙ c.values.ensures) c.steps-steps.ensures.value
