use Rattle.boc_front_rows.proofs.Staying.{arranged, still_there}
use Rattle.boc_front_rows.proofs.laws.kept_rows_are_arranged.Goals as goal

pub returns-clause-arranged : goal.returns-clause-arranged
returns-clause-arranged c lists front after kept same moved now = arranged lists front after kept same moved now

pub returns-clause-there : goal.returns-clause-there
returns-clause-there c lists front after kept same moved now = still_there lists front after kept same moved now
