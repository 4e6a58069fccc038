use Rattle.boc_turns.proofs.Gathering.{coming_none}
use Rattle.boc_turns.proofs.coming.note_coming.Goals as goal

pub loop-place-init : goal.loop-place-init
loop-place-init c = coming_none c.args.rows.now c.args.relaxed.now c.args.uses.now c.args.held.now c.args.wrote.now c.args.row c.clear.new.self.items
    c.clear.ensures.items
