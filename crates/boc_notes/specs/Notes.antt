-- The notes on rows that ended by a fault.
use Rattle.std.specs.Prelude.{◌≡◌, ◌⊎◌, ℕ, zero, suc, ◌-◌, ◌==◌, Bool, true, false, cond, List, [], ◌∷◌, ◌++◌, length, take, filter, slice_get}
use Rattle.std.specs.Prelude.{Option, Some, None, codes, decimal}
use Rattle.std.specs.List.{range_with_len}
use Rattle.std.specs.Option.{option_map_or}
use Rattle.std.specs.Str.{bytes_eq}
use Rattle.boc_program.specs.declared.body.EndStatus.{EndStatus}
use Rattle.boc_program.specs.declared.body.EndStatus.TheVariants as statuses
use Rattle.boc_runs.specs.declared.rows.Row.{Row}
use Rattle.boc_runs.specs.Rows.{ticks_of}
use Rattle.boc_eval.specs.Faulted.{FaultedRow}
use Rattle.boc_eval.specs.declared.instance.Instance.{Instance}
use Rattle.boc_eval.specs.declared.instance.ToldRow.{ToldRow}
use Rattle.boc_names.specs.Names.{NamedCowns, Text, behaviour_text, numbered, text_at}
use Rattle.boc_notes.specs.declared.note.Note.{Note}
use Rattle.boc_notes.specs.declared.note.TheConstants.{MOST_NOTED}

-- ---- what is noted

-- what is noted of a row: its number, what it is called (no text where it has no name), the ticks that it took, and how it ended
pub record Noted : Type 0 where
  pub row : ℕ
  pub called : Text
  pub ticks : ℕ
  pub status : EndStatus

-- that of a note
abbrev pub noted : Note → Noted
noted note = record { row = note.row; called = note.called.items; ticks = note.ticks; status = note.status }

-- the first of some things, as many as are reported one by one
abbrev pub first_noted : {A : Type 0} → List A → List A
first_noted items = take MOST_NOTED items

-- ---- the rows of a run

-- how a row ended; one that isn't there is over without a fault
abbrev pub status_at : List Row → ℕ → EndStatus
status_at rows r = option_map_or (λ row. row.status) (slice_get rows r) statuses.Done

-- a status is that of a fault
abbrev pub is_fault : EndStatus → Bool
is_fault statuses.Done = false
is_fault status = true

-- a row ended by a fault
abbrev pub has_fault : List Row → ℕ → Bool
has_fault rows r = is_fault (status_at rows r)

-- the numbers of the rows that ended by a fault, rising
abbrev pub faulted_rows : List Row → List ℕ
faulted_rows rows = filter (has_fault rows) (range_with_len 0 (length rows))

-- what a row that is called so is called, where that is more than its number
abbrev pub own_name : Text → ℕ → Text
own_name name r = cond (bytes_eq name (numbered (codes "row ") r)) [] name

-- what is noted of a row that is called so
abbrev pub note_of_named : List Row → Text → ℕ → Noted
note_of_named rows name r = record { row = r; called = own_name name r; ticks = ticks_of rows r; status = status_at rows r }

-- what is noted of a row, by these names
abbrev pub note_of_row : List Text → List Row → ℕ → Noted
note_of_row called rows r = note_of_named rows (text_at called r) r

-- ---- rows of which it is told what they are

-- what a row is, where that is reported
abbrev pub instance_told : List ToldRow → ℕ → Option Instance
instance_told [] r = None
instance_told (t ∷ told) r = cond (t.row == r) (Some t.instance) (instance_told told r)

-- of some row it isn't told what it is
abbrev pub LacksTold : List ToldRow → List ℕ → Type 0
LacksTold told [] = ⊥
LacksTold told (r ∷ rows) = (instance_told told r ≡ None) ⊎ LacksTold told rows

-- ---- the behaviours of a serial run

-- what is noted of one that ended by a fault, by the names of defs and cowns
abbrev pub note_of_behaviour : List Text → NamedCowns → FaultedRow → Noted
note_of_behaviour defs cowns f = record {
  row = f.row;
  called = behaviour_text defs cowns f.behaviour.kind f.behaviour.args f.behaviour.cowns;
  ticks = f.ticks;
  status = f.status;
}

-- ---- their text

-- the number and the name of a status
abbrev pub status_text : EndStatus → Text
status_text statuses.Done = codes "0 Done"
status_text statuses.Overflow = codes "1 Overflow"
status_text statuses.ZeroDivisor = codes "2 ZeroDivisor"
status_text statuses.OutOfRange = codes "3 OutOfRange"
status_text statuses.SameCown = codes "4 SameCown"
status_text statuses.Negative = codes "5 Negative"
status_text statuses.TickCap = codes "6 TickCap"

-- a name after a row's number, if there is one
abbrev pub called_text : Text → Text
called_text [] = []
called_text (b ∷ name) = codes ", " ++ (b ∷ name) ++ codes ","

-- which row a line is about
abbrev pub subject_text : Noted → Text
subject_text n = codes "boc: note: row " ++ decimal n.row ++ called_text n.called

-- how that row ended
abbrev pub end_text : Noted → Text
end_text n = codes " ended by " ++ status_text n.status ++ codes " at its tick " ++ decimal n.ticks ++ codes "\n"

-- the line of a row
abbrev pub note_text : Noted → Text
note_text n = subject_text n ++ end_text n

-- the lines of rows
abbrev pub note_texts : List Noted → Text
note_texts [] = []
note_texts (n ∷ notes) = note_text n ++ note_texts notes

-- a line that says how many more there are, if there are more
abbrev pub more_text : ℕ → Text
more_text zero = []
more_text (suc n) = codes "boc: note: " ++ decimal (suc n) ++ codes " more ended by a fault\n"

-- the notes: a line for each of the first rows, and how many more there are
abbrev pub notes_text : List Noted → Text
notes_text notes = note_texts (first_noted notes) ++ more_text (length notes - MOST_NOTED)
