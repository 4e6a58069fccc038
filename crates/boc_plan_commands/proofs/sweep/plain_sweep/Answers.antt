use Rattle.std.proofs.Common.{List, ℕ, ◌∙◌}
use Rattle.boc_report.specs.Texts.{sweep_lines}
use Rattle.boc_run_commands.proofs.Asked.{out_of_memory, swept, unwritten}
use Rattle.boc_plan_commands.proofs.sweep.plain_sweep.Goals as goal

pub returns-clause-written : goal.returns-clause-written
returns-clause-written g c =
    let asked = c.in_ok-rows.ensures.counted_or_fault in
    let read = asked.1 in (
      sweep_lines c.first_number.result c.deref.result.now,
      record {
        input = read.text;
        taken = read.taken;
        whole = read.over;
        answers = swept c.args.sharing c.in_ok-question.question.sharing c.args.over.now read.text asked.0 c.in_ok-question.question.rows
            c.in_ok-rows.count c.first_number.result c.in_ok-ends.ends.items c.deref.result.now read.text_of
            (c.in_ok-question.ensures.rows ∙ asked.2) asked.3 c.in_ok-question.ensures.sharing c.in_ok-ends.ensures.swept c.deref.ensures.value
            c.first_number.ensures;
      },
      c.in_ok-write_sweep.ensures.written,
    )

pub returns-in_err-write_sweep-clause-written : goal.returns-in_err-write_sweep-clause-written
returns-in_err-write_sweep-clause-written g c =
    let asked = c.in_ok-rows.ensures.counted_or_fault in
    let read = asked.1 in
    let text : List ℕ = sweep_lines c.first_number.result c.deref.result.now in
    unwritten _ _ c.in_err-write_sweep.field-0.0 text _ _ c.from_residual-in_err-write_sweep.ensures.1 (record {
      input = read.text;
      taken = read.taken;
      whole = read.over;
      answers = swept c.args.sharing c.in_ok-question.question.sharing c.args.over.now read.text asked.0 c.in_ok-question.question.rows
          c.in_ok-rows.count c.first_number.result c.in_ok-ends.ends.items c.deref.result.now read.text_of
          (c.in_ok-question.ensures.rows ∙ asked.2) asked.3 c.in_ok-question.ensures.sharing c.in_ok-ends.ensures.swept c.deref.ensures.value
          c.first_number.ensures;
    }) c.in_err-write_sweep.ensures.written

pub returns-in_err-ends-clause-written : goal.returns-in_err-ends-clause-written
returns-in_err-ends-clause-written g c = out_of_memory _ _ _ c.from_residual-in_err-ends.ensures.1
