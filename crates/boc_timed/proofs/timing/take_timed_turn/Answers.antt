use Rattle.std.proofs.Common.{sym, subst}
use Rattle.std.specs.Prelude.{Ok}
use Rattle.boc_program.specs.declared.program.Program.{Program}
use Rattle.boc_runs.specs.machine.Sound.{IsSound}
use Rattle.boc_dispatch.specs.Working.{row_in}
use Rattle.boc_dispatch.proofs.Hands.{thought_fits}
use Rattle.boc_dispatch.proofs.Worked.{has_thought}
use Rattle.boc_draws.proofs.Playing.{without_fault}
use Rattle.boc_timed.proofs.Playing.{takes_keeps}
use Rattle.boc_timed.proofs.timing.take_timed_turn.Goals as goal

pub returns-clause-fits : goal.returns-clause-fits
returns-clause-fits c =
    thought_fits c.take_told_turn.new.core c.take_told_turn.new.worker.hand c.think.new.self.hand (Ok c.in_ok-think.field-0)
    (without_fault c.take_told_turn.result c.in_default.not-Err c.take_told_turn.ensures.fits) c.in_ok-think.ensures.thinks

pub returns-clause-call : goal.returns-clause-call
returns-clause-call c =
    let new = c.take_told_turn.new.core in
    let old = c.args.core.now in
    let fits = without_fault c.take_told_turn.result c.in_default.not-Err c.take_told_turn.ensures.fits in
    let turn = without_fault c.take_told_turn.result c.in_default.not-Err c.take_told_turn.ensures.turn in
    let same = without_fault c.take_told_turn.result c.in_default.not-Err c.take_told_turn.ensures.program in
    c.call_at.ensures new
    (subst (λ (q : Program). IsSound q new.state) (sym same)
    (takes_keeps old.program old.state new.state (row_in c.args.worker.now.hand) (row_in c.take_told_turn.new.worker.hand) c.requires.sound turn))
    (thought_fits new c.take_told_turn.new.worker.hand c.think.new.self.hand (Ok c.in_ok-think.field-0) fits c.in_ok-think.ensures.thinks)
    (has_thought c.take_told_turn.new.worker.hand c.think.new.self.hand c.in_ok-think.field-0 c.in_ok-think.ensures.thinks)
