-- The texts that a record has.
use Rattle.std.specs.Prelude.{◌≡◌, ℕ, ◌<◌, List, [], length}
use Rattle.boc_runs.specs.declared.rows.Row.{Row}
use Rattle.boc_runs.specs.Records.{Recorded, IsRecord}
use Rattle.boc_runs.specs.Rows.{cowns_of, written_of}
use Rattle.boc_record.specs.RecordTexts.{Version, AreSpelt, record_text}

-- a text is that of a record in this version
pub record IsTextIn (version : Version) (text : List ℕ) (r : Recorded) : Type 0 where
  pub record_is : IsRecord r
  pub spelt : AreSpelt version [] r.events
  pub is : text ≡ record_text version r.cowns r.events

-- each row wrote all of its cowns
abbrev pub HasWrittenAll : List Row → Type 0
HasWrittenAll rows = (r : ℕ) → r < length rows → written_of rows r ≡ cowns_of rows r
