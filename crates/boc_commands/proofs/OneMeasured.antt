-- There is one list of the rows that a command reports on.
use Rattle.std.proofs.Common.{◌≡◌, ◌∙◌, ℕ, Bool, true, false, List, Option, refl, sym, subst}
use Rattle.std.specs.Prelude.{option_map}
use Rattle.boc_busy.specs.declared.timed.TimedRows.{TimedRows}
use Rattle.boc_runs.specs.declared.rows.Row.{Row}
use Rattle.boc_runs.specs.Rows.{IsRows}
use Rattle.boc_typical.specs.Typical.{IsTypical}
use Rattle.boc_typical.proofs.OneTypical.{one_typical}
use Rattle.boc_typical.proofs.TypicalRows.{typical_rows_are}
use Rattle.boc_run_commands.specs.Measured.{AreMeasured, times_measured}
use Rattle.boc_run_commands.specs.TimedAnswers.{end_of_times}

-- they have the shape of rows
pub are_rows : (typical : Bool) (defs : List ℕ) (rows measured : List Row) → IsRows rows → AreMeasured typical defs rows measured → IsRows measured
are_rows false defs rows measured hr same = subst IsRows (sym same) hr
are_rows true defs rows measured hr is = typical_rows_are rows hr defs is.0 measured is.1

-- there is one list of them, where the defs of the rows are the same
pub one_measured : (typical : Bool) (defs others : List ℕ) → defs ≡ others → (rows measured other : List Row) → IsRows rows
    → AreMeasured typical defs rows measured → AreMeasured typical others rows other → measured ≡ other
one_measured false defs others same rows measured other hr a b = a ∙ sym b
one_measured true defs others same rows measured other hr a b =
    one_typical rows hr others b.0 measured other (subst (λ (list : List ℕ). IsTypical rows list measured) same a.1) b.1

-- and one end of the times at which they ran
pub ends_measured : (typical : Bool) (a b : Option TimedRows) → option_map end_of_times a ≡ option_map end_of_times b
    → option_map end_of_times (times_measured typical a) ≡ option_map end_of_times (times_measured typical b)
ends_measured false a b same = same
ends_measured true a b same = refl
