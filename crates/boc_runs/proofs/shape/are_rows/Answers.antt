use Rattle.std.proofs.Common.{◌<◌, length, arith}
use Rattle.std.proofs.lemmas.Bool.Decides.{nat_tests}
use Rattle.boc_runs.proofs.Children.{rows_fit, rows_of_fit, zeros}
use Rattle.boc_runs.proofs.shape.are_rows.Goals as goal

pub are_fit-requires-clause-none : goal.are_fit-requires-clause-none
are_fit-requires-clause-none c = λ p. zeros 65535 p

pub returns : goal.returns
returns c =
    let some : 0 < length c.args.rows.now = grind (arith, nat_tests) in (
      λ h. rows_of_fit c.args.rows.now some c.if-rows-gt-MOST_ROWS.false (c.are_fit.ensures.0 h),
      λ h. c.are_fit.ensures.1 (rows_fit c.args.rows.now h),
    )
