use Rattle.boc_program.proofs.Fitting.{meaning_fits}
use Rattle.boc_program.proofs.laws.wishes_fit.Goals as goal

pub returns : goal.returns
returns c sigs n args inputs = meaning_fits sigs n c.args.body.now args inputs
