-- The notes that are wanted.
use Rattle.std.proofs.Common.{◌≡◌, ℕ, Bool, true, false, true≢false, List, [], Vec, ap, ◌∙◌, map, subst}
use Rattle.boc_runs.specs.declared.rows.Row.{Row}
use Rattle.std.specs.Global.{Global}
use Rattle.boc_names.specs.Names.{Text, texts_of}
use Rattle.boc_notes.specs.Notes.{faulted_rows, note_of_row, notes_text}
use Rattle.boc_plans.specs.declared.sharing.Sharing.{Sharing}
use Rattle.boc_plans.specs.Seen.{seen}
use Rattle.boc_record.specs.RecordTexts.{IsTextOf}
use Rattle.boc_runs.specs.Records.{Recorded}
use Rattle.boc_words.specs.declared.asked.AskedPlans.{AskedPlans}
use Rattle.boc_run_commands.specs.Answers.{IsReport}
use Rattle.boc_run_commands.specs.Notes.{AreWanted, TellsProfile, notes_of_rows}

-- notes of which something holds are notes of which what follows from it does
pub wanted_as : (quiet : Bool) (Are Others : Text → Type 0) (notes : Text) → ((told : Text) → Are told → Others told) → AreWanted quiet Are notes
    → AreWanted quiet Others notes
wanted_as true Are Others notes so are = are
wanted_as false Are Others notes so are = so notes are

-- notes that aren't left out
pub loud : (quiet : Bool) (Are : Text → Type 0) (notes : Text) → quiet ≡ false → Are notes → AreWanted quiet Are notes
loud true Are notes is are = absurd (true≢false is)
loud false Are notes is are = are

-- the notes on rows whose faults were found
pub told_of_rows : (own rows : List Row) (seen faulted : List ℕ) (called names : List (Vec ℕ Global)) (told : Text) → rows ≡ own
    → faulted ≡ faulted_rows rows → seen ≡ faulted → called ≡ names → told ≡ notes_text (map (note_of_row (texts_of called) rows) seen)
    → told ≡ notes_of_rows (texts_of names) own
told_of_rows own rows seen faulted called names told same are seen_is called_is is =
    is ∙ ap (λ (rs : List ℕ). notes_text (map (note_of_row (texts_of called) rows) rs)) (seen_is ∙ are)
    ∙ ap (λ (cs : List (Vec ℕ Global)). notes_of_rows (texts_of cs) rows) called_is ∙ ap (notes_of_rows (texts_of names)) same

-- the report on rows that were read, and the notes on them
pub noted_report : (sharing : Sharing) (asked : AskedPlans) (quiet : Bool) (notes input : Text) (r : Recorded) (rows : List Row) (output : Text)
    → IsTextOf input r → rows ≡ r.rows → IsReport (seen sharing rows) asked output → AreWanted quiet (λ told. told ≡ notes_of_rows [] rows) notes
    → TellsProfile sharing asked quiet notes input output
noted_report sharing asked quiet notes input r rows output spells same report noted = record {
  answer = record {
    recorded = r;
    spells = spells;
    report = subst (λ (rs : List Row). IsReport (seen sharing rs) asked output) same report;
  };
  noted = subst (λ (rs : List Row). AreWanted quiet (λ told. told ≡ notes_of_rows [] rs) notes) same noted;
}
