use Rattle.boc_commands.proofs.OneNaming.{same_record}
use Rattle.boc_commands.proofs.OneTold.{one_cowns_answer, one_why_answer}
use Rattle.boc_commands.proofs.laws_of_names.record_has_one_answer.Goals as goal

pub returns : goal.returns
returns c = record {
  why = λ asked file bytes input notes output others other recorded is a b.
      one_why_answer asked file bytes input notes output others other a b
      (same_record asked.schedule file bytes input recorded is a.answer.recorded b.answer.recorded a.answer.names b.answer.names a.answer.named b.answer.named);
  cowns = λ asked file bytes input notes output others other recorded is a b.
      one_cowns_answer asked file bytes input notes output others other a b
      (same_record asked.schedule file bytes input recorded is a.answer.recorded b.answer.recorded a.answer.names b.answer.names a.answer.named b.answer.named);
}
