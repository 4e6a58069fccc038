use Rattle.boc_commands.proofs.OneChange.{one_whatif_answer}
use Rattle.boc_commands.proofs.laws_of_names.changed_record_has_one_answer.Goals as goal

pub returns : goal.returns
returns c = one_whatif_answer
