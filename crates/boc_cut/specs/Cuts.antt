-- What a window is that was cut out of a stream.
use Rattle.std.specs.Prelude.{◌≡◌, ℕ, ◌≤◌, List, ◌++◌, length, Option, Some, None, IfSome, Result, Ok, Err}
use Rattle.std.specs.Io.KnownBytes.{Consumes}
use Rattle.boc_record.specs.RecordTexts.{IsTextOf}
use Rattle.boc_runs.specs.Records.{Recorded}
use Rattle.boc_stream.specs.declared.fault.StreamFault.{StreamFault}
use Rattle.boc_stream.specs.declared.lines.TheConstants.{CAPACITY}
use Rattle.boc_cut.specs.declared.cutting.CutFault.{CutFault}
use Rattle.boc_cut.specs.declared.cutting.CutFault.TheVariants as cuts
use Rattle.boc_cut.specs.declared.table.Row.{Row}
use Rattle.boc_cut.specs.declared.table.CownUse.{CownUse}
use Rattle.boc_cut.specs.declared.window.Window.{Window}
use Rattle.boc_cut.specs.Reading.{GoesOn}
use Rattle.boc_cut.specs.Whole.{AreWholeOrigins, IsNoRecord, RefusesAs, TakesRecord}
use Rattle.boc_cut.specs.Windows.{EndsLine, HasOrderOf}

-- Lines were read of a source, and no more bytes behind them than are taken in ahead. Rows that share a cown in the window share one in these lines, in the
-- same order. Where all of the source's bytes are the text of a record, of which no part was asked for, the window is that record.
pub record IsWindowOf (from : ℕ) (asked : Option ℕ) (before after : Option (List ℕ)) (made : Recorded) (origins : List (Option ℕ)) : Type 0 where
  pub text : List ℕ
  pub ends : EndsLine text
  pub ahead : List ℕ
  pub few : length ahead ≤ CAPACITY
  pub taken : Consumes before after (text ++ ahead)
  pub order : HasOrderOf text made.rows origins
  pub whole : from ≡ 0 → asked ≡ None → (r : Recorded) → IfSome before (λ bytes. IsTextOf bytes r → made ≡ r)

-- the text of a record, of which no part was asked for, is refused only where memory or a device was wanting
abbrev pub RefusesCut : CutFault → Option (List ℕ) → Type 0
RefusesCut (cuts.Stream fault) before = RefusesAs fault.kind before
RefusesCut (cuts.Broken rule) before = IsNoRecord before

-- a whole record, or the rows of a table
abbrev pub CutsAs : ℕ → Option ℕ → Result (Option Window) StreamFault → Option (List ℕ) → Option (List ℕ) → List Row → List CownUse → List Row → List CownUse
    → Type 0
CutsAs from asked (Ok (Some window)) before after rows uses others more =
    TakesRecord window.record before after × AreWholeOrigins window.record.rows window.origins.items
CutsAs from asked (Ok None) before after rows uses others more = GoesOn before after rows uses others more × (from ≡ 0 → asked ≡ None → IsNoRecord before)
CutsAs from asked (Err fault) before after rows uses others more = from ≡ 0 → asked ≡ None → RefusesAs fault.kind before
