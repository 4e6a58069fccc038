use Rattle.boc_names.proofs.Words.{one_reading}
use Rattle.boc_names.proofs.laws.file_has_one_reading.Goals as goal

pub returns : goal.returns
returns c = one_reading
