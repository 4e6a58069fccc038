use Rattle.boc_sweep.proofs.Lengths.{put_behind}
use Rattle.boc_sweep.proofs.windows.put.Goals as goal

pub returns : goal.returns
returns c = put_behind c.args.lists.now c.args.place c.push.new.self c.index-lists-place.result c.args.stretch c.requires c.in_ok-push.ensures.items
