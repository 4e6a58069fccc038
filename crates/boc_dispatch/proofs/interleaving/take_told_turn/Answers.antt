use Rattle.std.proofs.Common.{◌≡◌, ◌∙◌, subst}
use Rattle.std.specs.Prelude.{Ok}
use Rattle.boc_dispatch.specs.declared.interleaving.DriveFault.TheVariants.{Behaviours, NoSuchWorker}
use Rattle.boc_dispatch.specs.Driving.{EndsFor}
use Rattle.boc_dispatch.proofs.Hands.{thought_fits}
use Rattle.boc_dispatch.proofs.Telling.{right_on}
use Rattle.boc_dispatch.proofs.Turned.{went_on, stopped, one_reason, never_no_worker}
use Rattle.boc_dispatch.proofs.interleaving.take_told_turn.Goals as goal

pub returns-in-Moved-clause-turn : goal.returns-in-Moved-clause-turn
returns-in-Moved-clause-turn g c =
    (went_on c.args.core.now c.turn.new.core c.think.new.self.hand c.args.worker.now.hand c.turn.new.self.hand c.in_ok-think.field-0 c.turn.result
    c.requires.fits c.in_ok-think.ensures.thinks c.turn.ensures.works c.in-Moved.is).takes

pub returns-in-Moved-clause-program : goal.returns-in-Moved-clause-program
returns-in-Moved-clause-program g c =
    (went_on c.args.core.now c.turn.new.core c.think.new.self.hand c.args.worker.now.hand c.turn.new.self.hand c.in_ok-think.field-0 c.turn.result
    c.requires.fits c.in_ok-think.ensures.thinks c.turn.ensures.works c.in-Moved.is).same

pub returns-in-Moved-clause-fits : goal.returns-in-Moved-clause-fits
returns-in-Moved-clause-fits g c =
    c.turn.ensures.fits c.requires.sound
    (thought_fits c.args.core.now c.args.worker.now.hand c.think.new.self.hand (Ok c.in_ok-think.field-0) c.requires.fits c.in_ok-think.ensures.thinks)

pub fault_of-requires : goal.fault_of-requires
fault_of-requires g c =
    let s = stopped c.args.core.now c.turn.new.core c.think.new.self.hand c.args.worker.now.hand c.turn.new.self.hand c.in_ok-think.field-0 c.in-Refused.refusal
    c.requires.fits c.in_ok-think.ensures.thinks c.in-Refused.ensures.works in
    (s.fault, s.ends)

pub returns-in-Refused-clause-full : goal.returns-in-Refused-clause-full
returns-in-Refused-clause-full g c e =
    let s = stopped c.args.core.now c.turn.new.core c.think.new.self.hand c.args.worker.now.hand c.turn.new.self.hand c.in_ok-think.field-0 c.in-Refused.refusal
    c.requires.fits c.in_ok-think.ensures.thinks c.in-Refused.ensures.works in
    let is : c.fault_of.result ≡ Behaviours = cc in
    s.full (one_reason c.in-Refused.refusal s.fault c.fault_of.result s.ends c.fault_of.ensures ∙ is)

pub returns-in-Refused-clause-served : goal.returns-in-Refused-clause-served
returns-in-Refused-clause-served g c place e =
    let is : c.fault_of.result ≡ NoSuchWorker place = cc in
    never_no_worker c.in-Refused.refusal place (subst (EndsFor c.in-Refused.refusal) is c.fault_of.ensures)

pub returns-in-Moved-clause-right : goal.returns-in-Moved-clause-right
returns-in-Moved-clause-right g c right =
    right_on c.args.tell c.args.core.now c.turn.new.core c.think.new.self.hand c.turn.new.self.hand c.turn.result c.args.told.now.items
    c.tell_ending.new.told.items c.turn.ensures.works right c.in_ok-tell_ending.ensures.ok
