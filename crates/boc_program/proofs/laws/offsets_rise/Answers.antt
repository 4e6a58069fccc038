use Rattle.std.proofs.Common.{true}
use Rattle.boc_program.proofs.Rising.{meaning_rises}
use Rattle.boc_program.proofs.Truth.{all_pass}
use Rattle.boc_program.proofs.laws.offsets_rise.Goals as goal

pub returns : goal.returns
returns c args inputs = meaning_rises (λ kind es ps. true) c.args.body.now args inputs (all_pass c.args.body.now.block)
