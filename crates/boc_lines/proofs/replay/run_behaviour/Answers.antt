use Rattle.std.proofs.Common.{◌∙◌, ap, sym}
use Rattle.boc_runs.specs.Serial.{inputs_of}
use Rattle.boc_lines.specs.Books.{entered}
use Rattle.boc_lines.specs.Charges.{bill}
use Rattle.boc_lines.specs.Walks.{state_of}
use Rattle.boc_lines.proofs.Replaying.{begun}
use Rattle.boc_lines.proofs.replay.run_behaviour.Goals as goal

pub returns-clause-entered : goal.returns-clause-entered
returns-clause-entered c =
    let args = c.args.instance.now.args.items in
    let cowns = c.args.instance.now.cowns.items in
    let inputs = inputs_of cowns c.args.values.now in
    sym (ap (λ b. entered b (bill c.args.start c.args.body.now args inputs)) c.in_ok-begin.ensures.book)
    ∙ c.run_body.ensures.entered args inputs
    (begun c.args.body.now args c.deref.result.now cowns c.deref-2.result.now c.args.values.now (state_of c.begin.new.self) c.in_ok-begin.ensures.state
    c.deref.ensures.0 c.deref-2.ensures.0)
