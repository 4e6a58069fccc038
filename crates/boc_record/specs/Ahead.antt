-- The line of an event that is read without looking for its end first.
use Rattle.std.specs.Prelude.{◌≡◌, ℕ, ◌+◌, ◌*◌, ◌<◌, ◌≤◌, ◌^◌, List, ◌++◌, length, drop}
use Rattle.boc_text.specs.declared.lines.TheConstants.{MOST_LINE}
use Rattle.boc_runs.specs.declared.event.Event.{Event}
use Rattle.boc_runs.specs.Legal.{Entry, HasBounds}
use Rattle.boc_record.specs.RecordTexts.{Version, field, fields, line, event_line, IsSpelt}
use Rattle.boc_record.specs.Fields.{AreSmall, sign_of, numbers_of}

-- a field of at most eight bytes stands at the front of a text, and this behind it
pub record IsFieldAhead (text : List ℕ) (n : ℕ) (rest : List ℕ) : Type 0 where
  pub small : n < 2 ^ 32
  pub is : text ≡ field n ++ rest
  pub near : length text ≤ length rest + 8

-- such fields stand there
pub record AreFieldsAhead (text ns rest : List ℕ) : Type 0 where
  pub small : AreSmall ns
  pub is : text ≡ fields ns ++ rest
  pub near : length text ≤ length rest + 8 * length ns

-- fields at the front of a text tell an event behind a sign, whatever the rows so far, and something stands behind them
pub record TellsAhead (version : Version) (sign : ℕ) (text : List ℕ) (event : Event) (rest : List ℕ) : Type 0 where
  pub sign_is : sign_of event ≡ sign
  pub small : HasBounds event
  pub is : text ≡ fields (numbers_of version event) ++ rest
  pub some : 0 < length rest
  pub spelt : (rows : List Entry) → IsSpelt version rows event

-- the line of an event stands at the front of bytes, with its line feed, and has so many of them
pub record IsLineAhead (version : Version) (bytes : List ℕ) (event : Event) (len : ℕ) : Type 0 where
  pub small : HasBounds event
  pub short : length (event_line version event) ≤ MOST_LINE
  pub within : len < length bytes
  pub is : bytes ≡ line (event_line version event) ++ drop (len + 1) bytes
  pub spelt : (rows : List Entry) → IsSpelt version rows event
