-- The rows of a run that a command reports on.
use Rattle.std.proofs.Common.{◌≡◌, ℕ, Bool, true, false, true≢false, List, refl, subst}
use Rattle.boc_runs.specs.declared.rows.Row.{Row}
use Rattle.boc_runs.specs.Records.{Recorded}
use Rattle.boc_names.specs.declared.names.Names.{Names}
use Rattle.boc_run_commands.specs.Measured.{AreMeasured, HasMeasured, IsMeasured}
use Rattle.boc_run_commands.specs.NamedRuns.{HasRun}
use Rattle.boc_run_commands.specs.declared.named_run.NamedRun.{NamedRun}

-- the rows of a run are reported on, by its own names
pub measured_of : (typical : Bool) (Named : Recorded → Names → Type 0) (run after : NamedRun) → (has : HasRun Named run) → IsMeasured typical run after
    → AreMeasured typical run.names.defs.items has.recorded.rows after.rows
measured_of typical Named run after has is =
    subst (λ (rows : List Row). AreMeasured typical run.names.defs.items rows after.rows) has.rows_are is.measured

-- rows with their own ticks are reported on as they are
pub as_they_are : (typical : Bool) (defs : List ℕ) (rows : List Row) → typical ≡ false → AreMeasured typical defs rows rows
as_they_are false defs rows plain = refl
as_they_are true defs rows plain = absurd (true≢false plain)
