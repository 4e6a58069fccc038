-- The notes of which the first are reported.
use Rattle.std.proofs.Common.{◌≡◌, ◌∙◌, ℕ, ◌-◌, List, ◌++◌, length, map, take, ap, sym}
use Rattle.std.proofs.lemmas.List.{length-map, take-map}
use Rattle.boc_eval.specs.declared.serial.Faulted.{Faulted}
use Rattle.boc_eval.specs.Faulted.{FaultedRow, row_of, rows_of}
use Rattle.boc_notes.specs.declared.note.TheConstants.{MOST_NOTED}
use Rattle.boc_notes.specs.Notes.{Noted, first_noted, more_text, note_texts, notes_text}

-- what is reported of the first of some things, and how many more there are, is what is reported of them all
pub told_of_all : {A : Type 0} (f : A → Noted) (things : List A) (notes : List Noted) (told : List ℕ) → notes ≡ map f (first_noted things)
    → told ≡ note_texts notes ++ more_text (length things - MOST_NOTED) → told ≡ notes_text (map f things)
told_of_all f things notes told are is =
    is
    ∙ ap (λ (ns : List Noted). note_texts ns ++ more_text (length things - MOST_NOTED)) (are ∙ sym (take-map f MOST_NOTED things))
    ∙ ap (λ (n : ℕ). note_texts (first_noted (map f things)) ++ more_text (n - MOST_NOTED)) (sym (length-map things f))

-- the same of the behaviours of a serial run
pub told_of_serial : (f : FaultedRow → Noted) (faulted : List Faulted) (notes : List Noted) (told : List ℕ) → notes ≡ map f (rows_of (first_noted faulted))
    → told ≡ note_texts notes ++ more_text (length faulted - MOST_NOTED) → told ≡ notes_text (map f (rows_of faulted))
told_of_serial f faulted notes told are is =
    told_of_all f (rows_of faulted) notes told (are ∙ ap (λ (rows : List FaultedRow). map f rows) (sym (take-map row_of MOST_NOTED faulted)))
    (is ∙ ap (λ (n : ℕ). note_texts notes ++ more_text (n - MOST_NOTED)) (sym (length-map faulted row_of)))
