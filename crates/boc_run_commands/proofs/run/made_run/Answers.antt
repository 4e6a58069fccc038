use Rattle.boc_run_commands.proofs.Seeding.{scheduled_as}
use Rattle.boc_run_commands.proofs.Timing.{drawn_times}
use Rattle.boc_run_commands.proofs.run.made_run.Goals as goal

pub returns-in_ok-made-in-Drawn-clause-scheduled : goal.returns-in_ok-made-in-Drawn-clause-scheduled
returns-in_ok-made-in-Drawn-clause-scheduled g c =
    scheduled_as c.args.program.now c.args.schedule c.in-Drawn.workers c.in-Drawn.seed c.in-Drawn.depth c.in_ok-made-in-Drawn.made.record c.in-Drawn.is
    c.in_ok-made-in-Drawn.ensures.drawn

pub returns-in_ok-made-in-Drawn-clause-times : goal.returns-in_ok-made-in-Drawn-clause-times
returns-in_ok-made-in-Drawn-clause-times g c =
    drawn_times c.args.program.now c.args.schedule c.in-Drawn.workers c.in-Drawn.seed c.in-Drawn.depth c.in_ok-made-in-Drawn.made.record.rows
    c.in_ok-made-in-Drawn.made.times c.in-Drawn.is c.in_ok-made-in-Drawn.ensures.times
