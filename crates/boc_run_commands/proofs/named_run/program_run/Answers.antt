use Rattle.std.proofs.Common.{◌∙◌, List, subst, sym}
use Rattle.boc_runs.specs.declared.rows.Row.{Row}
use Rattle.boc_runs.specs.Rows.{IsRows}
use Rattle.boc_runs.specs.Run.{config_of}
use Rattle.boc_names.specs.Names.{AreNamesOf, Text}
use Rattle.boc_run_commands.specs.Commands.{IsOfRun}
use Rattle.boc_run_commands.specs.NamedRuns.{AreFew}
use Rattle.boc_run_commands.specs.Promises.{IsRunOf}
use Rattle.boc_run_commands.specs.Schedules.{AreTimes}
use Rattle.boc_run_commands.proofs.Passed.{passed_on, refused_course}
use Rattle.boc_run_commands.proofs.RunNames.{named_few}
use Rattle.boc_run_commands.proofs.named_run.program_run.Goals as goal

pub returns-in_err-run : goal.returns-in_err-run
returns-in_err-run g c =
    passed_on _ (IsOfRun g.G.Gate.always_on c.args.schedule c.args.text.now) _ _ c.from_residual-in_err-run.ensures.1
    (refused_course g.G.Gate.always_on c.args.schedule c.args.text.now c.in_ok-program.program c.in_err-run.field-0.0 c.in_ok-program.ensures.0
    c.in_err-run.ensures.failed)

pub returns : goal.returns
returns g c =
    let spelled = c.in_ok-program.ensures.0 in
    let run : IsRunOf c.in_ok-program.program c.in_ok-run.run'.record = c.in_ok-run.ensures.run in
    let shape = subst IsRows c.into_rows-rows.ensures.value c.as_slice-shape.ensures.shape in
    let named = subst (λ (called : List Text). AreNamesOf c.in_ok-program.program called
    (config_of c.in_ok-program.program c.in_ok-run.run'.record.events).members c.in_ok-names.names) (c.deref.ensures.value ∙ c.in_ok-defs.ensures)
    c.in_ok-names.ensures in
    let few = named_few c.in_ok-program.program c.in_ok-run.run'.record _ c.in_ok-names.names run.run run.whole shape named in (
      record {
        recorded = c.in_ok-run.run'.record;
        named = record {
          named = record {
            program = c.in_ok-program.program;
            spells = spelled;
            defs = c.in_ok-program.defs.items;
            lists = c.in_ok-program.ensures.1;
            run = run;
            names_are = named;
          };
          scheduled = record { program = c.in_ok-program.program; spells = spelled; scheduled = c.in_ok-run.ensures.scheduled };
        };
        rows_are = c.into_rows-rows.ensures.value;
        few = subst (λ (rows : List Row). AreFew rows c.in_ok-names.names) (sym c.into_rows-rows.ensures.value) few;
      },
      spelled.short,
      record {
        program = c.in_ok-program.program;
        spells = spelled;
        times_are = subst (λ (rows : List Row). AreTimes c.in_ok-program.program c.args.schedule rows c.in_ok-run.run'.times)
            (sym c.into_rows-rows.ensures.value) c.in_ok-run.ensures.times;
      },
    )
