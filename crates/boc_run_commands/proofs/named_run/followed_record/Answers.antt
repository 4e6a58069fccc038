use Rattle.std.proofs.Common.{List, subst, sym}
use Rattle.boc_runs.specs.declared.rows.Row.{Row}
use Rattle.boc_runs.specs.Rows.{IsRows}
use Rattle.boc_run_commands.specs.NamedRuns.{AreFew}
use Rattle.boc_run_commands.proofs.BesideFiles.{refused_input, refused_stray, strayed}
use Rattle.boc_run_commands.proofs.RunNames.{named_few}
use Rattle.boc_run_commands.proofs.named_run.followed_record.Goals as goal

pub returns-in_err-recorded-clause-refused : goal.returns-in_err-recorded-clause-refused
returns-in_err-recorded-clause-refused g c =
    refused_input c.args.text.now _ c.in_err-recorded.field-0.0 _ _ c.from_residual-in_err-recorded.ensures.1
    (c.in_ok-program.program, c.in_ok-program.ensures.listed.0) c.in_err-recorded.ensures.record_or_fault

pub returns-in_err-names-clause-refused : goal.returns-in_err-names-clause-refused
returns-in_err-names-clause-refused g c =
    refused_stray c.args.text.now _ _ c.in_ok-program.program c.in_ok-recorded.recorded _ _ c.from_residual-in_err-names.ensures.1
    c.in_ok-program.ensures.listed.0 c.in_ok-recorded.ensures.record_or_fault
    (strayed c.in_ok-program.program c.in_ok-recorded.recorded c.in_err-names.field-0.0 c.in_err-names.ensures)

pub returns-clause-read : goal.returns-clause-read
returns-clause-read g c =
    let read = c.in_ok-recorded.ensures.record_or_fault in
    let shape = subst IsRows c.into_rows-rows.ensures.value c.as_slice-shape.ensures.shape in
    let few = named_few c.in_ok-program.program c.in_ok-recorded.recorded _ c.in_ok-names.names c.in_ok-names.ensures.0 c.into_rows-rows.ensures.run shape
    c.in_ok-names.ensures.1 in (
      read.text,
      read.taken,
      read.over,
      record {
        recorded = c.in_ok-recorded.recorded;
        named = record {
          program = c.in_ok-program.program;
          spells = c.in_ok-program.ensures.listed.0;
          defs = c.in_ok-program.defs.items;
          lists = c.in_ok-program.ensures.listed.1;
          text_of = read.text_of;
          run = c.in_ok-names.ensures.0;
          names_are = c.in_ok-names.ensures.1;
        };
        rows_are = c.into_rows-rows.ensures.value;
        few = subst (λ (rows : List Row). AreFew rows c.in_ok-names.names) (sym c.into_rows-rows.ensures.value) few;
      },
    )
