use Rattle.boc_reader.proofs.Spellings.{one_program}
use Rattle.boc_run_commands.proofs.OneProgram.{same_program}
use Rattle.boc_commands.proofs.laws.text_spells_one_program.Goals as goal

pub returns : goal.returns
returns c = λ text p q one two. same_program p q (one_program text p q one two)
