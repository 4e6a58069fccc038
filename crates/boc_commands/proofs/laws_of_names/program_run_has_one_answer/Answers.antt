use Rattle.boc_commands.proofs.OneOfEither.{one_program_curve, one_program_profile, one_program_sweep, one_program_whatif}
use Rattle.boc_commands.proofs.laws_of_names.program_run_has_one_answer.Goals as goal

pub returns : goal.returns
returns c = record {
  profile = one_program_profile;
  curve = one_program_curve;
  sweep = one_program_sweep;
  whatif = one_program_whatif;
}
