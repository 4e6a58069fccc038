use Rattle.boc_several_commands.specs.Comparing.{TellsCompare}
use Rattle.boc_run_commands.proofs.Asked.{stopped}
use Rattle.boc_run_commands.proofs.TakenRuns.{answers_taken}
use Rattle.boc_several_commands.proofs.Compared.{refused_compare}
use Rattle.boc_several_commands.proofs.compare.compare_cmd.Goals as goal

pub returns-in_err-told-clause-refused : goal.returns-in_err-told-clause-refused
returns-in_err-told-clause-refused g c =
    refused_compare g.G.Gate.always_on c.args.asked c.args.files.now c.args.pair c.compared.new.which _ _ c.in_ok-text.text.items _ _
    c.from_residual-in_err-told.ensures.1 c.in_ok-text.ensures.text c.in_err-told.ensures

pub returns-clause-written : goal.returns-clause-written
returns-clause-written g c = (
  c.deref.result.now,
  answers_taken (TellsCompare c.args.asked c.args.files.now c.args.pair c.in_ok-told.told.notes.items) _ _
      c.in_ok-text.text.items c.in_ok-told.told.text.items c.deref.result.now c.in_ok-text.ensures.text c.in_ok-told.ensures.1 c.in_ok-told.ensures.0
      c.deref.ensures.value,
  c.in_ok-put_out.ensures.ok,
)

pub returns-in_err-put_out-clause-written : goal.returns-in_err-put_out-clause-written
returns-in_err-put_out-clause-written g c =
    stopped _ _ _ c.deref.result.now _ _ c.from_residual-in_err-put_out.ensures.1
    (answers_taken (TellsCompare c.args.asked c.args.files.now c.args.pair c.in_ok-told.told.notes.items) _ _
    c.in_ok-text.text.items c.in_ok-told.told.text.items c.deref.result.now c.in_ok-text.ensures.text c.in_ok-told.ensures.1 c.in_ok-told.ensures.0
    c.deref.ensures.value)
    c.in_err-put_out.ensures.stopped
