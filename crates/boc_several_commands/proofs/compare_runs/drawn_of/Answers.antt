use Rattle.boc_several_commands.specs.CompareRuns.{IsOfDrawing}
use Rattle.boc_run_commands.proofs.Passed.{passed_on}
use Rattle.boc_several_commands.proofs.DrawnSides.{refused_numbers}
use Rattle.boc_several_commands.proofs.compare_runs.drawn_of.Goals as goal

pub returns-in_err-numbers-clause-drawn : goal.returns-in_err-numbers-clause-drawn
returns-in_err-numbers-clause-drawn g c =
    passed_on _ (IsOfDrawing c.args.program.now c.args.asked.now) _ _ c.from_residual-in_err-numbers.ensures.1
    (refused_numbers c.args.program.now c.in_ok-compiled.compiled c.args.asked.now c.in_ok-compiled.ensures c.in_ok-way.way c.drawn_in-draws.result
    c.drawn_in-draws.ensures.is c.in_ok-way.ensures c.in_err-numbers.field-0.0 c.in_err-numbers.ensures)
