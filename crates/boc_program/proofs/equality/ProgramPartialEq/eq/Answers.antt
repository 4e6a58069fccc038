use Rattle.boc_program.specs.contracts.program.Program as the
use Rattle.boc_program.specs.memory.Same.{same_answer}
use Rattle.boc_program.proofs.equality.ProgramPartialEq.eq.Goals as goal

pub returns-clause-eq : goal.returns-clause-eq
returns-clause-eq c = same_answer the.the_row.coded c.args.self.now c.args.other.now c.same_program.result c.same_program.ensures
