use Rattle.std.proofs.Common.{arith}
use Rattle.boc_names.proofs.HeldTexts.{held_put}
use Rattle.boc_names.proofs.held.CownNames.put_held.Goals as goal

pub returns : goal.returns
returns c =
    held_put c.args.self.now c.args.held.now c.split_at.result.0.now c.split_at.result.1.now c.args.text.now.items c.push.new.self.items
    c.put_stretch.new.text.items c.put_more_held.new.text.items c.stretch_len.result (omega arith) c.stretch_len.ensures.first
    c.split_at.ensures.front c.split_at.ensures.back c.in_ok-push.ensures.items c.in_ok-put_stretch.ensures c.in_ok-put_more_held.ensures
