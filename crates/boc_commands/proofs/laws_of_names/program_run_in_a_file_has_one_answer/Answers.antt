use Rattle.boc_record.proofs.OneFault.{one_record}
use Rattle.boc_plan_commands.specs.declared.program_input.Supplied.TheVariants.{Record}
use Rattle.boc_commands.proofs.OneOfEither.{one_program_curve, one_program_profile, one_program_sweep, one_program_whatif}
use Rattle.boc_commands.proofs.laws_of_names.program_run_in_a_file_has_one_answer.Goals as goal

pub returns : goal.returns
returns c = record {
  profile = λ asked bytes input notes output others other a b.
      one_program_profile asked Record bytes input notes output others other a b (one_record bytes a.recorded b.recorded a.run.text_of b.run.text_of);
  curve = λ asked bytes input output other a b.
      one_program_curve asked Record bytes input output other a b (one_record bytes a.recorded b.recorded a.run.text_of b.run.text_of);
  sweep = λ asked bytes input output other a b.
      one_program_sweep asked Record bytes input output other a b (one_record bytes a.recorded b.recorded a.run.text_of b.run.text_of);
  whatif = λ schedule bytes changes sharing plans short input output other a b.
      one_program_whatif schedule Record bytes changes sharing plans short input output other a b
      (one_record bytes a.recorded b.recorded a.run.text_of b.run.text_of);
}
