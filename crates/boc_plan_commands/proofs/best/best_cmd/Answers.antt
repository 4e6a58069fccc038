use Rattle.std.proofs.Common.{◌∙◌}
use Rattle.boc_run_commands.proofs.Asked.{out_of_memory, stopped}
use Rattle.boc_plan_commands.proofs.BestEnds.{best_of, places_fit}
use Rattle.boc_plan_commands.proofs.best.best_cmd.Goals as goal

pub returns-clause-written : goal.returns-clause-written
returns-clause-written g c =
    let asked = c.in_ok-rows.ensures.counted_or_fault in
    let read = asked.1 in (
      c.deref-3.result.now,
      record {
        input = read.text;
        taken = read.taken;
        whole = read.over;
        answers = best_of c.args.sharing c.in_ok-question.question.sharing c.args.over.now c.args.most read.text asked.0 c.in_ok-question.question.rows
            c.in_ok-rows.count c.first_number.result c.in_ok-was.was' c.in_ok-ends.ends.items c.deref.result.now c.in_ok-all.all.items
            c.deref-2.result.now c.in_ok-text.text.items c.deref-3.result.now read.text_of (c.in_ok-question.ensures.rows ∙ asked.2) asked.3
            c.in_ok-question.ensures.sharing c.in_ok-ends.ensures.swept c.in_ok-was.ensures c.deref.ensures.value c.in_ok-all.ensures.ranked
            c.deref-2.ensures.value c.first_number.ensures c.in_ok-text.ensures c.deref-3.ensures.value;
      },
      c.in_ok-put_out.ensures.ok,
    )

pub returns-in_err-put_out-clause-written : goal.returns-in_err-put_out-clause-written
returns-in_err-put_out-clause-written g c =
    let asked = c.in_ok-rows.ensures.counted_or_fault in
    let read = asked.1 in
    stopped _ _ _ c.deref-3.result.now _ _ c.from_residual-in_err-put_out.ensures.1 (record {
      input = read.text;
      taken = read.taken;
      whole = read.over;
      answers = best_of c.args.sharing c.in_ok-question.question.sharing c.args.over.now c.args.most read.text asked.0 c.in_ok-question.question.rows
          c.in_ok-rows.count c.first_number.result c.in_ok-was.was' c.in_ok-ends.ends.items c.deref.result.now c.in_ok-all.all.items
          c.deref-2.result.now c.in_ok-text.text.items c.deref-3.result.now read.text_of (c.in_ok-question.ensures.rows ∙ asked.2) asked.3
          c.in_ok-question.ensures.sharing c.in_ok-ends.ensures.swept c.in_ok-was.ensures c.deref.ensures.value c.in_ok-all.ensures.ranked
          c.deref-2.ensures.value c.first_number.ensures c.in_ok-text.ensures c.deref-3.ensures.value;
    }) c.in_err-put_out.ensures.stopped

pub returns-in_err-was-clause-written : goal.returns-in_err-was-clause-written
returns-in_err-was-clause-written g c = out_of_memory _ _ _ c.from_residual-in_err-was.ensures.1

pub returns-in_err-all-clause-written : goal.returns-in_err-all-clause-written
returns-in_err-all-clause-written g c = out_of_memory _ _ _ c.from_residual-in_err-all.ensures.1

pub returns-in_err-text-clause-written : goal.returns-in_err-text-clause-written
returns-in_err-text-clause-written g c = out_of_memory _ _ _ c.from_residual-in_err-text.ensures.1

pub best_text-requires : goal.best_text-requires
best_text-requires g c =
    places_fit c.in_ok-ends.ends.items c.deref.result.now c.in_ok-all.all.items c.deref-2.result.now c.in_ok-ends.ensures.few c.deref.ensures.value
    c.in_ok-all.ensures.below c.deref-2.ensures.value
