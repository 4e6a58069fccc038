use Rattle.boc_several_commands.proofs.DrawnSides.{of_text}
use Rattle.boc_several_commands.proofs.compare_runs.drawn_side.Goals as goal

pub returns-clause-drawn : goal.returns-clause-drawn
returns-clause-drawn g c =
    of_text c.args.asked.now c.args.text.now c.in_ok-program.program c.drawn_of.result c.in_ok-program.ensures.0 c.drawn_of.ensures.drawn
