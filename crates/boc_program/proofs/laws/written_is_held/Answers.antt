use Rattle.boc_program.proofs.RisingNumbers.{written_held, written_rises, written_few}
use Rattle.boc_program.proofs.laws.written_is_held.Goals as goal

pub returns-clause-held : goal.returns-clause-held
returns-clause-held c = written_held c.args.body.now

pub returns-clause-rises : goal.returns-clause-rises
returns-clause-rises c = written_rises c.args.body.now

pub returns-clause-few : goal.returns-clause-few
returns-clause-few c = written_few c.args.body.now
