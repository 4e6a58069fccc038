-- A run that comes to an end.
use Rattle.std.specs.Prelude.{◌≡◌, length}
use Rattle.boc_program.specs.declared.program.Program.{Program}
use Rattle.boc_runs.specs.Legal.{entries}
use Rattle.boc_runs.specs.Records.{Recorded, IsRecord, IsRecordOf}
use Rattle.boc_runs.specs.Run.{config_of, IsWholeRun}
use Rattle.boc_all_ends.specs.declared.found.End.{End}
use Rattle.boc_follow.specs.Following.{Following}

-- a whole run of the program, which has the end's values and its least number of rows
pub record ComesTo (p : Program) (end : End) (run : Following) : Type 0 where
  pub program : run.program ≡ p
  pub whole : IsWholeRun p run.log
  pub values_are : (config_of p run.log).values ≡ end.values.items
  pub many : length (entries run.log) ≡ end.least

-- the record of a whole run of the program, which has the end's values and its least number of rows
pub record RecordsEnd (p : Program) (end : End) (r : Recorded) : Type 0 where
  pub run : IsRecordOf p r
  pub whole : IsRecord r
  pub values_are : (config_of p r.events).values ≡ end.values.items
  pub many : length r.rows ≡ end.least
