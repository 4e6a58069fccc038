use Rattle.std.proofs.Common.{ℕ, Bool, List, refl, subst}
use Rattle.boc_run_commands.specs.Commands.{IsOfRun}
use Rattle.boc_run_commands.specs.Notes.{AreRunNotes, AreWanted, TellsRun}
use Rattle.boc_run_commands.specs.Promises.{IsRunOfText}
use Rattle.boc_run_commands.specs.Schedules.{IsScheduledText}
use Rattle.boc_words.specs.declared.schedule.Schedule.{Schedule}
use Rattle.boc_runs.specs.Records.{Recorded}
use Rattle.boc_record.specs.RecordTexts.{Second, record_text}
use Rattle.boc_run_commands.proofs.Asked.{answers_text, unwritten}
use Rattle.boc_run_commands.proofs.Passed.{refused_run}
use Rattle.boc_run_commands.proofs.run.run_cmd.Goals as goal

pub returns-in_err-noted-clause-refused : goal.returns-in_err-noted-clause-refused
returns-in_err-noted-clause-refused g c =
    refused_run _ _ _ _ c.in_ok-text.text.items _ _ c.from_residual-in_err-noted.ensures.1 c.in_ok-text.ensures.text
    (subst (λ (t : List ℕ). IsOfRun g.G.Gate.always_on c.args.schedule t c.in_err-noted.field-0.0) c.deref.ensures.value c.in_err-noted.ensures)

-- what was handed over to be written
written : (schedule : Schedule) (quiet : Bool) (notes seen : List ℕ) (r : Recorded) → IsRunOfText seen r → IsScheduledText seen schedule r
    → AreWanted quiet (AreRunNotes seen r) notes → TellsRun schedule quiet notes seen (record_text Second r.cowns r.events)
written schedule quiet notes seen r run scheduled noted =
    record { answer = record { recorded = r; run = run; text = refl }; scheduled = scheduled; noted = noted }

pub returns-clause-written : goal.returns-clause-written
returns-clause-written g c =
    let run = c.in_ok-noted.ensures in
    let text : List ℕ = record_text Second c.in_ok-noted.noted.record.cowns c.in_ok-noted.noted.record.events in (
      text,
      answers_text (TellsRun c.args.schedule c.args.quiet c.in_ok-noted.noted.notes.items) _ _ c.in_ok-text.text.items c.deref.result.now text text
          c.in_ok-text.ensures.text c.deref.ensures.value refl
          (written c.args.schedule c.args.quiet c.in_ok-noted.noted.notes.items c.deref.result.now c.in_ok-noted.noted.record run.0 run.1 run.2)
          run.3,
      c.in_ok-write_record.ensures.written,
    )

pub returns-in_err-write_record-clause-written : goal.returns-in_err-write_record-clause-written
returns-in_err-write_record-clause-written g c =
    let run = c.in_ok-noted.ensures in
    let text : List ℕ = record_text Second c.in_ok-noted.noted.record.cowns c.in_ok-noted.noted.record.events in
    unwritten _ _ c.in_err-write_record.field-0.0 text _ _ c.from_residual-in_err-write_record.ensures.1
    (answers_text (TellsRun c.args.schedule c.args.quiet c.in_ok-noted.noted.notes.items) _ _ c.in_ok-text.text.items c.deref.result.now text text
    c.in_ok-text.ensures.text c.deref.ensures.value refl
    (written c.args.schedule c.args.quiet c.in_ok-noted.noted.notes.items c.deref.result.now c.in_ok-noted.noted.record run.0 run.1 run.2) run.3)
    c.in_err-write_record.ensures.written
