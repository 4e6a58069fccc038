use Rattle.boc_play.proofs.Chaining.{list_put}
use Rattle.boc_play.proofs.waiting.put.Goals as goal

pub returns : goal.returns
returns c = list_put c.args.next.now c.args.place c.push.new.self c.index-next-place.result c.args.row c.requires c.in_ok-push.ensures.items
