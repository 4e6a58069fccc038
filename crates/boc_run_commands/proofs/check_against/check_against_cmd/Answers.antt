use Rattle.std.proofs.Common.{List, ap, length}
use Rattle.boc_runs.specs.declared.rows.Row.{Row}
use Rattle.boc_run_commands.proofs.Asked.{stopped}
use Rattle.boc_run_commands.proofs.BesideFiles.{checked_against, refused_input, refused_stray}
use Rattle.boc_run_commands.proofs.check_against.check_against_cmd.Goals as goal

pub returns-in_err-recorded-clause-refused : goal.returns-in_err-recorded-clause-refused
returns-in_err-recorded-clause-refused g c =
    refused_input c.args.program.now _ c.in_err-recorded.field-0.0 _ _ c.from_residual-in_err-recorded.ensures.1
    (c.in_ok-program.program, c.in_ok-program.ensures) c.in_err-recorded.ensures.record_or_fault

pub returns-in_err-followed-clause-refused : goal.returns-in_err-followed-clause-refused
returns-in_err-followed-clause-refused g c =
    refused_stray c.args.program.now _ c.in_err-followed.field-0.0 c.in_ok-program.program c.in_ok-recorded.recorded _ _
    c.from_residual-in_err-followed.ensures.1 c.in_ok-program.ensures c.in_ok-recorded.ensures.record_or_fault c.in_err-followed.ensures

pub returns-clause-written : goal.returns-clause-written
returns-clause-written g c =
    let read = c.in_ok-recorded.ensures.record_or_fault in (
      c.deref.result.now,
      record {
        input = read.text;
        taken = read.taken;
        whole = read.over;
        answers = checked_against c.args.program.now read.text c.in_ok-program.program c.in_ok-recorded.recorded (length c.rows.result.now)
            c.in_ok-answer.answer.items c.deref.result.now c.in_ok-program.ensures read.text_of c.in_ok-followed.ensures
            (ap (λ (rows : List Row). length rows) c.rows.ensures.value) c.in_ok-answer.ensures c.deref.ensures.value;
      },
      c.in_ok-put_out.ensures.ok,
    )

pub returns-in_err-put_out-clause-written : goal.returns-in_err-put_out-clause-written
returns-in_err-put_out-clause-written g c =
    let read = c.in_ok-recorded.ensures.record_or_fault in
    stopped _ _ _ c.deref.result.now _ _ c.from_residual-in_err-put_out.ensures.1 (record {
      input = read.text;
      taken = read.taken;
      whole = read.over;
      answers = checked_against c.args.program.now read.text c.in_ok-program.program c.in_ok-recorded.recorded (length c.rows.result.now)
          c.in_ok-answer.answer.items c.deref.result.now c.in_ok-program.ensures read.text_of c.in_ok-followed.ensures
          (ap (λ (rows : List Row). length rows) c.rows.ensures.value) c.in_ok-answer.ensures c.deref.ensures.value;
    }) c.in_err-put_out.ensures.stopped
