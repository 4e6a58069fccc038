use Rattle.boc_dispatch.proofs.Telling.{right_on}
use Rattle.boc_workers.proofs.shared.Shared.turn.Goals as goal

pub invariant_of-self-in-Refused-clause-are_right : goal.invariant_of-self-in-Refused-clause-are_right
invariant_of-self-in-Refused-clause-are_right g c =
    right_on c.args.self.now.tell c.args.self.now.dispatcher c.turn-turn.new.core c.args.worker.now.hand c.turn-turn.new.self.hand c.turn-turn.result
    c.args.self.now.told.items c.tell_ending.new.told.items c.turn-turn.ensures.works c.args.self.now.are_right c.in-Ok.ensures.ok

pub invariant_of-self-in-Moved-clause-are_right : goal.invariant_of-self-in-Moved-clause-are_right
invariant_of-self-in-Moved-clause-are_right g c =
    right_on c.args.self.now.tell c.args.self.now.dispatcher c.turn-turn.new.core c.args.worker.now.hand c.turn-turn.new.self.hand c.turn-turn.result
    c.args.self.now.told.items c.tell_ending.new.told.items c.turn-turn.ensures.works c.args.self.now.are_right c.in-Ok.ensures.ok

pub invariant_of-self-in_default-turn-clause-are_right : goal.invariant_of-self-in_default-turn-clause-are_right
invariant_of-self-in_default-turn-clause-are_right g c =
    right_on c.args.self.now.tell c.args.self.now.dispatcher c.turn-turn.new.core c.args.worker.now.hand c.turn-turn.new.self.hand c.turn-turn.result
    c.args.self.now.told.items c.tell_ending.new.told.items c.turn-turn.ensures.works c.args.self.now.are_right c.in-Ok.ensures.ok
