-- What a record says of the run that it is of.
use Rattle.std.proofs.Common.{◌≡◌, sym, ap, ◌∙◌}
use Rattle.std.specs.Prelude.{Ok}
use Rattle.boc_program.specs.declared.program.Program.{Program}
use Rattle.boc_runs.specs.machine.AlongRows.{EndsSerially, cowns_of_rows, steps_of_rows}
use Rattle.boc_runs.specs.machine.Sound.{IsSound}
use Rattle.boc_runs.specs.Records.{Recorded, IsRecordOf}
use Rattle.boc_machine_laws.proofs.Every.{all_steps}
use Rattle.boc_machine_laws.proofs.Serially.{ends_serially}
use Rattle.boc_dispatch.specs.Calls.{EndsAsRecord}
use Rattle.boc_dispatch.specs.Underway.{Underway}

-- each end in a record is that of the serial run
pub ends_as_serial : (p : Program) (r : Recorded) → IsRecordOf p r → EndsSerially p r.events
ends_as_serial p r is = ends_serially p r.events is.run.run

-- as many steps were made as the record's rows take
pub steps_of_record : (u : Underway) (r : Recorded) → IsSound u.program u.state → EndsAsRecord u (Ok r) → u.state.steps ≡ steps_of_rows (cowns_of_rows r.events)
steps_of_record u r sound ends = all_steps u.program u.state sound ends.0 ∙ ap (λ log. steps_of_rows (cowns_of_rows log)) (sym ends.1)
