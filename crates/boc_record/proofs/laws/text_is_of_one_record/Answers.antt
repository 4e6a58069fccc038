use Rattle.boc_record.proofs.OneFault.{one_record, one_fault, never_both}
use Rattle.boc_record.proofs.laws.text_is_of_one_record.Goals as goal

pub returns : goal.returns
returns c = record { «record» = one_record; fault = one_fault; never_both = never_both }
