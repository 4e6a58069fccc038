use Rattle.std.specs.Prelude.{None, false}
use Rattle.boc_commands.proofs.OneAnswer.{one_check_answer, one_curve_answer, one_profile_answer, one_sweep_answer, one_values_answer}
use Rattle.boc_commands.proofs.OneAnswer.{one_best_answer, one_check_against_answer, one_outcomes_answer, one_values_after_answer}
use Rattle.boc_commands.proofs.OneChange.{one_whatif_answer}
use Rattle.boc_commands.proofs.laws.input_has_one_answer.Goals as goal

pub returns : goal.returns
returns c = record {
  values = one_values_answer;
  check = one_check_answer;
  check_against = one_check_against_answer;
  values_after = one_values_after_answer;
  profile = one_profile_answer;
  whatif = λ changes sharing asked bytes input output other.
      one_whatif_answer None bytes changes sharing asked false input output other;
  curve = one_curve_answer;
  sweep = one_sweep_answer;
  best = one_best_answer;
  outcomes = one_outcomes_answer;
}
