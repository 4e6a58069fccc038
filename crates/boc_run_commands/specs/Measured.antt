-- The rows of a run that a command reports on.
use Rattle.std.specs.Prelude.{◌≡◌, ℕ, Bool, true, false, List, length, Option, None}
use Rattle.boc_busy.specs.declared.timed.TimedRows.{TimedRows}
use Rattle.boc_runs.specs.declared.rows.Row.{Row}
use Rattle.boc_runs.specs.Records.{Recorded}
use Rattle.boc_names.specs.declared.names.Names.{Names}
use Rattle.boc_typical.specs.Typical.{IsTypical}
use Rattle.boc_run_commands.specs.NamedRuns.{AreFew}
use Rattle.boc_run_commands.specs.declared.named_run.NamedRun.{NamedRun}

-- the rows that are reported on are those of the run, or these with the median ticks of their def each, of which there is one for each row
abbrev pub AreMeasured : Bool → List ℕ → List Row → List Row → Type 0
AreMeasured false defs rows measured = measured ≡ rows
AreMeasured true defs rows measured = (length defs ≡ length rows) × IsTypical rows defs measured

-- when they ran, if that is known: not of rows with other ticks than their own
abbrev pub times_measured : Bool → Option TimedRows → Option TimedRows
times_measured false times = times
times_measured true times = None

-- the number of workers for which the span of a run is compared with that of another: not where it is of other ticks
abbrev pub workers_measured : Bool → Option ℕ → Option ℕ
workers_measured false workers = workers
workers_measured true workers = None

-- a run with the rows that are reported on, by the same names
pub record IsMeasured (typical : Bool) (run after : NamedRun) : Type 0 where
  pub measured : AreMeasured typical run.names.defs.items run.rows after.rows
  pub names_are : after.names ≡ run.names
  pub times_are : after.times ≡ times_measured typical run.times
  pub few : AreFew after.rows after.names

-- these are the rows of a run that are reported on, with what they and their cowns are called
pub record HasMeasured (typical : Bool) (Named : Recorded → Names → Type 0) (run : NamedRun) : Type 0 where
  pub recorded : Recorded
  pub named : Named recorded run.names
  pub measured : AreMeasured typical run.names.defs.items recorded.rows run.rows
