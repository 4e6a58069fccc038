-- What becomes of the rows of a table while a stream is read.
use Rattle.std.specs.Prelude.{◌≡◌, ℕ, List, ◌++◌, Some, slice_get}
use Rattle.boc_record.specs.RecordTexts.{line}
use Rattle.boc_cut.specs.declared.table.Row.{Row}
use Rattle.boc_cut.specs.declared.table.CownUse.{CownUse}
use Rattle.boc_cut.specs.Windows.{EndsLine, Spawns, AreSpawned, cowns_used}

-- each text that spawns the old rows, over their cowns, spawns the new ones
abbrev pub KeepsSpawned : List Row → List CownUse → List Row → List CownUse → Type 0
KeepsSpawned rows uses others more = (text : List ℕ) → AreSpawned text rows uses → AreSpawned text others more

-- so does a text that also spawns this row
abbrev pub SpawnsMore : ℕ → List ℕ → List Row → List CownUse → List Row → List CownUse → Type 0
SpawnsMore number cowns rows uses others more = (text : List ℕ) → Spawns text number cowns → AreSpawned text rows uses → AreSpawned text others more

-- so does a text with this line more
abbrev pub LineSpawns : List ℕ → List Row → List CownUse → List Row → List CownUse → Type 0
LineSpawns l rows uses others more = (text : List ℕ) → EndsLine text → AreSpawned text rows uses → AreSpawned (text ++ line l) others more

-- each row has the number and the cowns of the row that was there before
abbrev pub AreSameRows : List Row → List Row → Type 0
AreSameRows rows others = (place : ℕ) (row : Row) → slice_get others place ≡ Some row
    → (old : Row) × (slice_get rows place ≡ Some old) × (row.number ≡ old.number) × (row.from ≡ old.from) × (row.to ≡ old.to)

-- uses of these cowns stand behind the others
abbrev pub AppendsUses : List ℕ → List CownUse → List CownUse → Type 0
AppendsUses cowns uses others = (more : List CownUse) × (others ≡ uses ++ more) × (cowns_used more ≡ cowns)
