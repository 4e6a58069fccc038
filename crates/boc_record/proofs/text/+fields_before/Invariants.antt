use Rattle.std.proofs.Common.{length}
use Rattle.boc_record.proofs.text.+fields_before.Given as goal

abbrev pub decreases-fields_before : goal.decreases-fields_before
decreases-fields_before l = length l.numbers.now
