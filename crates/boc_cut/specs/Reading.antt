-- What was read of a stream, and what became of a table by it.
use Rattle.std.specs.Prelude.{◌<◌, ℕ, Bool, true, false, List, length, Option, IfSome, Result, Ok, Err}
use Rattle.std.specs.Bool.{OnFalse}
use Rattle.std.specs.Io.KnownBytes.{Consumes, Keeps, IsAtEnd}
use Rattle.boc_stream.specs.LongLines.{GivesLine, EndsInLine, IsTooLong}
use Rattle.boc_stream.specs.declared.fault.StreamFaultKind.{StreamFaultKind}
use Rattle.boc_stream.specs.declared.fault.StreamFaultKind.TheVariants as kinds
use Rattle.boc_stream.specs.declared.told.Told.{Told}
use Rattle.boc_stream.specs.declared.told.Told.TheVariants as tolds
use Rattle.boc_cut.specs.declared.table.Row.{Row}
use Rattle.boc_cut.specs.declared.table.CownUse.{CownUse}
use Rattle.boc_cut.specs.Windows.{EndsLine, Spawns, AreSpawned}

-- why there is no line: the bytes end within it, or it is too long
abbrev pub HasNoLine : StreamFaultKind → Option (List ℕ) → Type 0
HasNoLine kinds.Truncated before = EndsInLine before
HasNoLine kinds.LongLine before = IsTooLong before
HasNoLine kinds.Device before = Unit {0}
HasNoLine _ before = ⊥

-- a line was found, or the end, which stays the answer once the lines are over
abbrev pub FindsLine : Bool → Result Bool StreamFaultKind → List ℕ → Option (List ℕ) → Option (List ℕ) → Type 0
FindsLine is_over (Ok true) line before after = GivesLine line before after
FindsLine is_over (Ok false) line before after = OnFalse is_over (IsAtEnd before) × Keeps before after
FindsLine is_over (Err kind) line before after = HasNoLine kind before

-- no bytes follow, or some do
abbrev pub FindsEnd : Bool → Result (Unit {0}) StreamFaultKind → Option (List ℕ) → Option (List ℕ) → Type 0
FindsEnd is_over (Ok done) before after = OnFalse is_over (IsAtEnd before) × Keeps before after
FindsEnd is_over (Err kinds.After) before after = OnFalse is_over (IfSome before (λ rest. 0 < length rest))
FindsEnd is_over (Err kinds.Device) before after = Unit {0}
FindsEnd is_over (Err _) before after = ⊥

-- Lines were read up to here, from where the bytes began, and each row of a table was spawned by one of them.
pub record HasRead (start now : Option (List ℕ)) (rows : List Row) (uses : List CownUse) : Type 0 where
  pub text : List ℕ
  pub ends : EndsLine text
  pub taken : Consumes start now text
  pub spawned : AreSpawned text rows uses

-- the lines that were read, from any place on, go on to here, and spawn the rows that the table has now
abbrev pub GoesOn : Option (List ℕ) → Option (List ℕ) → List Row → List CownUse → List Row → List CownUse → Type 0
GoesOn before after rows uses others more = (start : Option (List ℕ)) → HasRead start before rows uses → HasRead start after others more

-- a text spawns the row, if a spawn is told
abbrev pub SpawnsTold : List ℕ → Told → List ℕ → Type 0
SpawnsTold text (tolds.Spawn row parent offset) cowns = Spawns text row cowns
SpawnsTold text _ cowns = Unit {0}

-- each text that spawns the old rows, and the row that is told, spawns the new ones
abbrev pub TakesTold : Told → List ℕ → List Row → List CownUse → List Row → List CownUse → Type 0
TakesTold told cowns rows uses others more = (text : List ℕ) → SpawnsTold text told cowns → AreSpawned text rows uses → AreSpawned text others more
