use Rattle.boc_run_commands.specs.Commands.{IsOfRun}
use Rattle.boc_run_commands.specs.Notes.{AreRunNotes}
use Rattle.boc_run_commands.specs.Promises.{IsRunOf}
use Rattle.boc_run_commands.proofs.Noting.{wanted_as}
use Rattle.boc_run_commands.proofs.Passed.{passed_on, refused_course}
use Rattle.boc_run_commands.proofs.run.noted_run.Goals as goal

pub returns-in_err-run : goal.returns-in_err-run
returns-in_err-run g c =
    passed_on _ (IsOfRun g.G.Gate.always_on c.args.schedule c.args.text.now) _ _ c.from_residual-in_err-run.ensures.1
    (refused_course g.G.Gate.always_on c.args.schedule c.args.text.now c.in_ok-program.program c.in_err-run.field-0.0 c.in_ok-program.ensures.0
    c.in_err-run.ensures.failed)

pub returns : goal.returns
returns g c =
    let spelled = c.in_ok-program.ensures.0 in
    let is_run : IsRunOf c.in_ok-program.program c.in_ok-run.run'.record = c.in_ok-run.ensures.run in
    let noted = wanted_as c.args.quiet _ (AreRunNotes c.args.text.now c.in_ok-run.run'.record) c.in_ok-notes.notes.items (λ told is. record {
      program = c.in_ok-program.program;
      spells = spelled;
      defs = c.in_ok-program.defs.items;
      lists = c.in_ok-program.ensures.1;
      notes_are = is;
    }) c.in_ok-notes.ensures in (
      record { program = c.in_ok-program.program; spells = spelled; run = is_run },
      record { program = c.in_ok-program.program; spells = spelled; scheduled = c.in_ok-run.ensures.scheduled },
      noted,
      spelled.short,
      record { program = c.in_ok-program.program; spells = spelled; times_are = c.in_ok-run.ensures.times },
    )
