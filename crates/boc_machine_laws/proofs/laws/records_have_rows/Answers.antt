use Rattle.boc_machine_laws.proofs.Records.{record_cowns, record_parents}
use Rattle.boc_machine_laws.proofs.laws.records_have_rows.Goals as goal

pub returns-clause-cowns : goal.returns-clause-cowns
returns-clause-cowns c = record_cowns

pub returns-clause-parents : goal.returns-clause-parents
returns-clause-parents c = record_parents
