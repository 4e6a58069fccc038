use Rattle.boc_run_commands.proofs.Asked.{counted, stopped}
use Rattle.boc_run_commands.proofs.check.check_cmd.Goals as goal

pub returns-clause-written : goal.returns-clause-written
returns-clause-written g c =
    let asked = c.in_ok-rows.ensures.rows_or_fault in
    let read = asked.1 in (
      c.deref.result.now,
      record {
        input = read.text;
        taken = read.taken;
        whole = read.over;
        answers = counted read.text asked.0 c.in_ok-rows.rows c.in_ok-answer.answer.items c.deref.result.now read.text_of asked.2 c.in_ok-answer.ensures
            c.deref.ensures.value;
      },
      c.in_ok-put_out.ensures.ok,
    )

pub returns-in_err-put_out-clause-written : goal.returns-in_err-put_out-clause-written
returns-in_err-put_out-clause-written g c =
    let asked = c.in_ok-rows.ensures.rows_or_fault in
    let read = asked.1 in
    stopped _ _ _ c.deref.result.now _ _ c.from_residual-in_err-put_out.ensures.1 (record {
      input = read.text;
      taken = read.taken;
      whole = read.over;
      answers = counted read.text asked.0 c.in_ok-rows.rows c.in_ok-answer.answer.items c.deref.result.now read.text_of asked.2 c.in_ok-answer.ensures
          c.deref.ensures.value;
    }) c.in_err-put_out.ensures.stopped
