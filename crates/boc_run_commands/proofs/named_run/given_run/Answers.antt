use Rattle.std.proofs.Common.{List, refl, subst, sym}
use Rattle.boc_runs.specs.declared.rows.Row.{Row}
use Rattle.boc_runs.specs.Rows.{IsRows}
use Rattle.boc_run_commands.specs.NamedRuns.{AreFew, IsOfGiven}
use Rattle.boc_run_commands.proofs.GivenRuns.{of_given_file, of_given_stray}
use Rattle.boc_run_commands.proofs.Passed.{passed_on}
use Rattle.boc_run_commands.proofs.RunNames.{named_few}
use Rattle.boc_run_commands.proofs.named_run.given_run.Goals as goal

pub returns-in_err-recorded : goal.returns-in_err-recorded
returns-in_err-recorded g c =
    passed_on _ (IsOfGiven c.args.text.now c.args.bytes.items) _ _ c.from_residual-in_err-recorded.ensures.1
    (of_given_file c.args.text.now c.args.bytes.items c.in_ok-program.program c.in_err-recorded.field-0.0 c.in_ok-program.ensures.0 c.in_err-recorded.ensures)

pub returns-in-Err : goal.returns-in-Err
returns-in-Err g c =
    subst (IsOfGiven c.args.text.now c.args.bytes.items) (sym c.of_stray_beside.ensures)
    (of_given_stray c.args.text.now c.args.bytes.items c.in_ok-program.program c.in_ok-recorded.recorded c.in-Err.fault c.in_ok-program.ensures.0
    c.in_ok-recorded.ensures c.in-Err.ensures)

pub returns : goal.returns
returns g c =
    let spelled = c.in_ok-program.ensures.0 in
    let shape = subst IsRows c.into_rows-rows.ensures.value c.as_slice-shape.ensures.shape in
    let few = named_few c.in_ok-program.program c.in_ok-recorded.recorded _ c.in-Ok.names c.in-Ok.ensures.0 c.into_rows-rows.ensures.run shape
    c.in-Ok.ensures.1 in (
      record {
        recorded = c.in_ok-recorded.recorded;
        named = record {
          program = c.in_ok-program.program;
          spells = spelled;
          defs = c.in_ok-program.defs.items;
          lists = c.in_ok-program.ensures.1;
          text_of = c.in_ok-recorded.ensures;
          run = c.in-Ok.ensures.0;
          names_are = c.in-Ok.ensures.1;
        };
        rows_are = c.into_rows-rows.ensures.value;
        few = subst (λ (rows : List Row). AreFew rows c.in-Ok.names) (sym c.into_rows-rows.ensures.value) few;
      },
      spelled.short,
      refl,
    )
