use Rattle.std.proofs.Common.{◌≡◌, ◌∙◌, ◌∷◌, ℕ, List, Result, Err, ap, codes, map, rules, refl}
use Rattle.boc_program.specs.declared.program.Program.{Program}
use Rattle.boc_runs.specs.OwnOrder.{HasTooMany}
use Rattle.boc_reader.specs.Spells.{Spells}
use Rattle.boc_eval.specs.declared.serial.SerialFault.{SerialFault}
use Rattle.boc_eval.specs.declared.serial.SerialFault.TheVariants as serial
use Rattle.boc_run_commands.specs.Faults.{of_serial}
use Rattle.boc_run_commands.specs.Commands.{IsOfText}
use Rattle.boc_run_commands.specs.Answers.{IsValuesAnswer}
use Rattle.boc_run_commands.specs.Notes.{AreSerialNotes}
use Rattle.boc_eval.proofs.Turning.{ends_with}
use Rattle.boc_eval.specs.Faulted.{rows_of}
use Rattle.boc_eval.specs.declared.serial.Faulted.{Faulted}
use Rattle.boc_names.specs.Names.{named_cowns}
use Rattle.boc_notes.specs.Notes.{note_of_behaviour, notes_text}
use Rattle.boc_run_commands.proofs.Noting.{wanted_as}
use Rattle.boc_run_commands.proofs.Passed.{passed_on, refused_text}
use Rattle.boc_run_commands.proofs.values.values_told.Goals as goal

pub returns : goal.returns
returns g c =
    let spelled : Spells c.args.text.now c.in_ok-program.program = c.in_ok-program.ensures.0 in
    let answer : IsValuesAnswer c.args.text.now c.in_ok-text.text.items = record {
      program = c.in_ok-program.program;
      spells = spelled;
      values = c.in_ok-end.end.values.items;
      ends = ends_with c.in_ok-program.program c.in_ok-end.end.values.items (rows_of c.in_ok-end.end.faulted.items) c.in_ok-end.ensures.ends;
      text = search rules;
    } in
    let noted = wanted_as c.args.quiet _ (AreSerialNotes c.args.text.now) c.in_ok-notes.notes.items (λ told is. record {
      program = c.in_ok-program.program;
      spells = spelled;
      defs = c.in_ok-program.defs.items;
      lists = c.in_ok-program.ensures.1;
      values = c.in_ok-end.end.values.items;
      faulted = rows_of c.in_ok-end.end.faulted.items;
      ends = c.in_ok-end.ensures.ends;
      notes_are = is ∙ ap (λ (fs : List Faulted). notes_text (map (note_of_behaviour (codes "main" ∷ map (λ d. d.name) c.in_ok-program.defs.items)
          (named_cowns c.in_ok-program.program.cowns)) (rows_of fs))) c.deref.ensures.value;
    }) c.in_ok-notes.ensures in ((answer, noted), spelled.short)

pub returns-in_err-program : goal.returns-in_err-program
returns-in_err-program g c =
    passed_on _ (IsOfText c.args.text.now) _ _ c.from_residual.ensures.1
    (refused_text (IsOfText c.args.text.now) c.args.text.now c.in_err-program.field-0.0 tt (λ wrong. wrong) c.in_err-program.ensures)

-- a run that needs too many behaviours is refused as that, and want of memory refuses nothing
refused : {A : Type 0} (text : List ℕ) (program : Program) (run : Result A SerialFault) (fault : SerialFault) → Spells text program → run ≡ Err fault
    → (run ≡ Err serial.Behaviours → HasTooMany program) → IsOfText text (of_serial fault)
refused text program run serial.Memory spells is many = tt
refused text program run serial.Behaviours spells is many = record { program = program; spells = spells; many = many is }

pub returns-in_err-end : goal.returns-in_err-end
returns-in_err-end g c =
    passed_on _ (IsOfText c.args.text.now) _ _ c.from_residual-in_err-end.ensures.1
    (refused c.args.text.now c.in_ok-program.program (Err c.in_err-end.field-0.0) c.in_err-end.field-0.0 c.in_ok-program.ensures.0 refl
    c.in_err-end.ensures.behaviours)
