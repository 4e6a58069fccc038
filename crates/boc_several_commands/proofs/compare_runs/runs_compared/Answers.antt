use Rattle.std.proofs.Common.{◌∙◌, sym}
use Rattle.boc_run_commands.proofs.Passed.{passed_on}
use Rattle.boc_several_commands.specs.CompareRuns.{IsOfCompareRuns}
use Rattle.boc_several_commands.specs.declared.compare.Which.TheVariants.{Before, After}
use Rattle.boc_several_commands.proofs.DrawnSides.{of_first, of_second}
use Rattle.boc_several_commands.proofs.compare_runs.runs_compared.Goals as goal

pub returns-in_err-before : goal.returns-in_err-before
returns-in_err-before g c =
    passed_on _ (IsOfCompareRuns c.args.asked c.args.after.now c.args.text.now Before) _ _ c.from_residual.ensures.1
    (of_first c.args.asked c.args.after.now c.args.text.now c.in_err-before.field-0.0 c.in_err-before.ensures.drawn)

pub returns-in_err-after : goal.returns-in_err-after
returns-in_err-after g c =
    passed_on _ (IsOfCompareRuns c.args.asked c.args.after.now c.args.text.now After) _ _ c.from_residual-in_err-after.ensures.1
    (of_second c.args.asked c.args.after.now c.args.text.now c.in_err-after.field-0.0 c.in_ok-before.before c.in_ok-before.ensures.drawn.0
    c.in_err-after.ensures.drawn)

pub told_of-requires-clause-both : goal.told_of-requires-clause-both
told_of-requires-clause-both g c =
    c.in_ok-before.ensures.drawn.0.drawn.numbers.long ∙ sym c.in_ok-after.ensures.drawn.0.drawn.numbers.long
