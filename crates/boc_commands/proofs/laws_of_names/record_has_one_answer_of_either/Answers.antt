use Rattle.boc_commands.proofs.OneOfEither.{one_curve_of_record, one_profile_of_record, one_sweep_of_record, one_whatif_of_record}
use Rattle.boc_commands.proofs.laws_of_names.record_has_one_answer_of_either.Goals as goal

pub returns : goal.returns
returns c = record {
  profile = one_profile_of_record;
  curve = one_curve_of_record;
  sweep = one_sweep_of_record;
  whatif = one_whatif_of_record;
}
