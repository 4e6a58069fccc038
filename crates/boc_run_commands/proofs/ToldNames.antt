-- Notes on rows of which it is told what they are.
use Rattle.std.proofs.Common.{◌≡◌, ◌∙◌, ℕ, List, ◌∷◌, codes, map}
use Rattle.std.proofs.Math.Logic.{∥∥₁_elim}
use Rattle.std.proofs.Props.{props}
use Rattle.boc_program.specs.declared.program.Program.{Program}
use Rattle.boc_runs.specs.declared.event.Event.{Event}
use Rattle.boc_runs.specs.declared.rows.Row.{Row}
use Rattle.boc_runs.specs.Run.{Member, config_of}
use Rattle.boc_eval.specs.declared.instance.ToldRow.{ToldRow}
use Rattle.boc_eval.specs.Instances.{AreRight, AreTrueOf}
use Rattle.boc_names.specs.Names.{NamedCowns, Text, member_text, named_cowns}
use Rattle.boc_notes.specs.Notes.{note_of_row, notes_text}
use Rattle.boc_run_commands.specs.Notes.{run_names}

-- the notes on rows that are called by what is told of them are those on rows that are called as the run's are
pub told_notes : (p : Program) (defs : List Text) (events : List Event) (told : List ToldRow) (called : List Text) (cowns : NamedCowns) (rows own : List Row)
    (faulted : List ℕ) (text : Text) → AreRight (config_of p events).members told → called ≡ codes "main" ∷ defs → cowns ≡ named_cowns p.cowns → rows ≡ own
    → ((run : List Member) → AreTrueOf run told → text ≡ notes_text (map (note_of_row (map (member_text called cowns) run) rows) faulted))
    → text ≡ notes_text (map (note_of_row (run_names p defs events) own) faulted)
told_notes p defs events told called cowns rows own faulted text right called_are cowns_are same_rows tells =
    let run : List Member = (config_of p events).members in
    ∥∥₁_elim right (hlevel props) (λ are. tells run are)
    ∙ (λ i. notes_text (map (note_of_row (map (member_text (called_are i) (cowns_are i)) run) (same_rows i)) faulted))
