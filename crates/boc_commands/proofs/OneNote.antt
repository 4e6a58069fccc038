-- Of the rows of one run there is one note on the span of the timed run with which it is compared.
use Rattle.std.proofs.Common.{◌≡◌, ◌∙◌, ℕ, List, map, Option, Some, None, inl, inr, ap, refl, sym, subst}
use Rattle.boc_program.specs.declared.program.Program.{Program}
use Rattle.boc_reader.specs.Spells.{Spells}
use Rattle.boc_reader.proofs.Spellings.{one_program}
use Rattle.boc_runs.specs.declared.event.Event.{Event}
use Rattle.boc_runs.specs.declared.rows.Row.{Row}
use Rattle.boc_runs.specs.Legal.{entries}
use Rattle.boc_runs.specs.machine.Turns.{Driven}
use Rattle.boc_rules.specs.Logged.{row_of}
use Rattle.boc_rules.proofs.KeptRows.{rows_of_run}
use Rattle.boc_plans.specs.declared.sharing.Sharing.{Sharing}
use Rattle.boc_plans.specs.Greedy.{IsSpan}
use Rattle.boc_plans.specs.Seen.{seen}
use Rattle.boc_order.proofs.Alone.{one_span}
use Rattle.boc_timed.specs.declared.timing.TimedRun.{TimedRun}
use Rattle.boc_timed.specs.Timed.{IsTimedRun}
use Rattle.boc_timed.proofs.OneTimed.{one_run, run_or_full}
use Rattle.boc_run_commands.specs.TimedNotes.{HasTimedSpan, IsNoteFor, IsTimedNote, IsTimedSpan, note_beside}
use Rattle.boc_run_commands.proofs.OneProgram.{same_program}

-- a timed run has one list of rows
rows_same : (p : Program) (workers : ℕ) (a b : TimedRun) → IsTimedRun p workers a → IsTimedRun p workers b → a.record.rows ≡ b.record.rows
rows_same p workers a b x y =
    let events : a.record.events ≡ b.record.events =
    x.events ∙ ap (λ (d : Driven). d.state.log) (one_run p workers a b x y) ∙ sym y.events in
    sym (rows_of_run (entries a.record.events) a.record.rows x.whole.rows_are)
    ∙ ap (λ (es : List Event). map row_of (entries es)) events
    ∙ rows_of_run (entries b.record.events) b.record.rows y.whole.rows_are

-- a text that spells a program spells no other
programs_same : (text : List ℕ) (p q : Program) → Spells text p → Spells text q → p ≡ q
programs_same text p q x y = same_program p q (one_program text p q x y)

two_spans : (text : List ℕ) (workers : ℕ) (sharing : Sharing) (a b : ℕ) → HasTimedSpan text workers sharing a → HasTimedSpan text workers sharing b → a ≡ b
two_spans text workers sharing a b x y =
    let timed : IsTimedRun y.program workers x.run =
    subst (λ (p : Program). IsTimedRun p workers x.run) (programs_same text x.program y.program x.spells y.spells) x.is in
    let rows : x.run.record.rows ≡ y.run.record.rows = rows_same y.program workers x.run y.run timed y.is in
    one_span (seen sharing y.run.record.rows) a b (subst (λ (rs : List Row). IsSpan (seen sharing rs) a) rows x.span_is) y.span_is

either : (text : List ℕ) (workers : ℕ) (sharing : Sharing) (a : ℕ) → HasTimedSpan text workers sharing a → IsTimedSpan text workers sharing None → ⊥
either text workers sharing a x none = run_or_full x.program workers x.run x.is (none x.program x.spells)

one_timed_span : (text : List ℕ) (workers : ℕ) (sharing : Sharing) (a b : Option ℕ) → IsTimedSpan text workers sharing a → IsTimedSpan text workers sharing b
    → a ≡ b
one_timed_span text workers sharing None None x y = refl
one_timed_span text workers sharing None (Some b) x y = absurd (either text workers sharing b y x)
one_timed_span text workers sharing (Some a) None x y = absurd (either text workers sharing a x y)
one_timed_span text workers sharing (Some a) (Some b) x y = ap Some (two_spans text workers sharing a b x y)

timed_notes_same : (text : List ℕ) (workers : ℕ) (sharing : Sharing) (rows : List Row) (a b : List ℕ) → IsTimedNote text workers sharing rows a
    → IsTimedNote text workers sharing rows b → a ≡ b
timed_notes_same text workers sharing rows a b x y =
    let span : x.span ≡ y.span = one_span (seen sharing rows) x.span y.span x.span_is y.span_is in
    let timed : x.timed ≡ y.timed = one_timed_span text workers sharing x.timed y.timed x.timed_is y.timed_is in
    let note : note_beside workers x.span x.timed ≡ note_beside workers y.span y.timed = λ i. note_beside workers (span i) (timed i) in
    x.note_is ∙ note ∙ sym y.note_is

pub one_note : (text : List ℕ) (workers : Option ℕ) (sharing : Sharing) (rows : List Row) (a b : List ℕ) → IsNoteFor text workers sharing rows a
    → IsNoteFor text workers sharing rows b → a ≡ b
one_note text None sharing rows a b x y = x ∙ sym y
one_note text (Some workers) sharing rows a b (inl x) (inl y) = x.1 ∙ sym y.1
one_note text (Some workers) sharing rows a b (inl x) (inr y) = absurd (y.0 x.0)
one_note text (Some workers) sharing rows a b (inr x) (inl y) = absurd (x.0 y.0)
one_note text (Some workers) sharing rows a b (inr x) (inr y) = timed_notes_same text workers sharing rows a b x.1 y.1
