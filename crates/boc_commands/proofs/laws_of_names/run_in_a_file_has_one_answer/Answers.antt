use Rattle.std.specs.Prelude.{Some}
use Rattle.boc_words.specs.declared.asked.RunFile.TheVariants as run_files
use Rattle.boc_record.proofs.OneFault.{one_record}
use Rattle.boc_commands.proofs.OneTold.{one_cowns_answer, one_why_answer}
use Rattle.boc_commands.proofs.laws_of_names.run_in_a_file_has_one_answer.Goals as goal

pub returns : goal.returns
returns c = record {
  why = λ asked path bytes input notes output others other a b.
      one_why_answer asked (Some (run_files.Record path)) bytes input notes output others other a b
      (one_record bytes a.answer.recorded b.answer.recorded a.answer.named.text_of b.answer.named.text_of);
  cowns = λ asked path bytes input notes output others other a b.
      one_cowns_answer asked (Some (run_files.Record path)) bytes input notes output others other a b
      (one_record bytes a.answer.recorded b.answer.recorded a.answer.named.text_of b.answer.named.text_of);
}
