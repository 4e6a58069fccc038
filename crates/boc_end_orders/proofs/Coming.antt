-- A run whose rows are spawned in an order ends with its values.
use Rattle.std.proofs.Common.{◌≡◌, ℕ, List, length, sym, ◌∙◌, ap}
use Rattle.std.proofs.lemmas.List.{length-map}
use Rattle.boc_program.specs.declared.program.Program.{Program}
use Rattle.boc_runs.specs.Legal.{entries}
use Rattle.boc_runs.specs.Run.{IsWholeRun}
use Rattle.boc_runs.specs.Serial.{serial_along}
use Rattle.boc_runs.specs.machine.AlongRows.{parents_of_rows}
use Rattle.boc_machine_laws.proofs.Serially.{values_at_end}
use Rattle.boc_all_ends.specs.declared.found.End.{End}
use Rattle.boc_follow.specs.Following.{Following}
use Rattle.boc_end_orders.specs.Runs.{ComesTo}

pub comes_to : (p : Program) (end : End) (run : Following) (parents : List ℕ) → run.program ≡ p → IsWholeRun p run.log → parents_of_rows run.log ≡ parents
    → (serial_along p parents).values ≡ end.values.items → length parents ≡ end.least → ComesTo p end run
comes_to p end run parents program whole same values many = record {
  program = program;
  whole = whole;
  values_are = values_at_end p run.log whole ∙ ap (λ ps. (serial_along p ps).values) same ∙ values;
  many = sym (length-map (entries run.log) (λ e. e.parent)) ∙ ap (length {A = ℕ}) same ∙ many;
}
