-- What the commands that cut windows out of streams answer.
use Rattle.std.specs.Prelude.{◌≡◌, ◌≤◌, ℕ, Bool, true, false, List, ◌++◌, length, codes, decimal, Option, None, IfSome, Result, Ok, Err}
use Rattle.std.specs.List.{flat_map}
use Rattle.boc_cut.specs.Cuts.{IsWindowOf}
use Rattle.boc_cut.specs.Whole.{IsNoRecord}
use Rattle.boc_cut.specs.declared.cutting.CutFault.{CutFault}
use Rattle.boc_cut.specs.declared.cutting.CutFault.TheVariants as cuts
use Rattle.boc_cut.specs.declared.tiling.Tile.{Tile}
use Rattle.boc_cut.specs.declared.window.Window.{Window}
use Rattle.boc_record.specs.RecordTexts.{Second, IsTextOf, record_text}
use Rattle.boc_run_commands.specs.declared.fault.Fault.{Fault}
use Rattle.boc_run_commands.specs.declared.fault.Fault.TheVariants as faults
use Rattle.boc_run_commands.specs.declared.fault.Want.TheVariants as wants
use Rattle.boc_runs.specs.Records.{Recorded, IsRecord}
use Rattle.boc_stream.specs.declared.fault.StreamFaultKind.{StreamFaultKind}
use Rattle.boc_stream.specs.declared.fault.StreamFaultKind.TheVariants as kinds

-- The output is the text of the record of a window, which is cut out of a source's bytes from the row of a rank on, with at most so many rows. Where all of
-- these bytes are the text of a record in the second version, of which no part was asked for, the output is these bytes.
pub record IsCutAnswer (from : ℕ) (asked : Option ℕ) (before after : Option (List ℕ)) (output : List ℕ) : Type 0 where
  pub window : Window
  pub legal : IsRecord window.record
  pub cut_out : IsWindowOf from asked before after window.record window.origins.items
  pub text : output ≡ record_text Second window.record.cowns window.record.events
  pub same : from ≡ 0 → asked ≡ None → (r : Recorded) → IfSome before (λ bytes. (t : IsTextOf bytes r) → t.version ≡ Second → output ≡ bytes)

-- the last field of a window's line: a record can have as many rows, or it can't
abbrev pub fits_text : Bool → List ℕ
fits_text true = codes " fits\n"
fits_text false = codes " large\n"

-- the line of a window: the rank at which it begins, how many rows are spawned in it, and how many are alive where it begins
abbrev pub tile_line : Tile → List ℕ
tile_line tile = decimal tile.from ++ codes " " ++ decimal tile.rows ++ codes " " ++ decimal tile.alive ++ fits_text tile.fits

-- the lines of windows
abbrev pub tiles_text : List Tile → List ℕ
tiles_text tiles = flat_map tile_line tiles

-- the output has the lines of at most this number of windows
pub record IsTilesAnswer (count : ℕ) (output : List ℕ) : Type 0 where
  pub tiles : List Tile
  pub few : length tiles ≤ count
  pub text : output ≡ tiles_text tiles

-- a stream, its names or what was made of it is refused; another fault is want of memory or of a device
abbrev pub RefusesWindow : {A : Type 0} → Result A Fault → Type 0
RefusesWindow (Ok done) = Unit {0}
RefusesWindow (Err (faults.Window w)) = Unit {0}
RefusesWindow (Err (faults.Means w)) = Unit {0}
RefusesWindow (Err _) = ⊥

-- a fault other than want of memory or of a device says that a source's bytes are not the text of a record
abbrev pub RefusesWhole : Fault → Option (List ℕ) → Type 0
RefusesWhole (faults.Window w) before = IsNoRecord before
RefusesWhole _ before = Unit {0}

-- the same of a fault before anything goes out
abbrev pub IsOfWindow : Fault → Type 0
IsOfWindow (faults.Window w) = Unit {0}
IsOfWindow (faults.Means wants.Memory) = Unit {0}
IsOfWindow (faults.Means wants.Source) = Unit {0}
IsOfWindow _ = ⊥

-- the same of a fault of the names, which are in memory
abbrev pub IsOfNames : Fault → Type 0
IsOfNames (faults.Window w) = Unit {0}
IsOfNames (faults.Means wants.Memory) = Unit {0}
IsOfNames _ = ⊥

-- the fault is that the source failed
abbrev pub is_device_kind : StreamFaultKind → Bool
is_device_kind kinds.Device = true
is_device_kind _ = false

-- the same of what was cut
abbrev pub is_device : CutFault → Bool
is_device (cuts.Stream fault) = is_device_kind fault.kind
is_device (cuts.Broken rule) = false
