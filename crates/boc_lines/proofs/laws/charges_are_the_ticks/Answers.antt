use Rattle.std.proofs.Common.{◌+◌, arith}
use Rattle.boc_program.specs.Syntax.{code_size}
use Rattle.boc_lines.proofs.Agreeing.{body_agrees}
use Rattle.boc_lines.proofs.laws.charges_are_the_ticks.Goals as goal

pub returns : goal.returns
returns c first args inputs = (body_agrees (first + 1 + code_size c.args.body.now.block) first c.args.body.now args inputs (omega arith)).0
