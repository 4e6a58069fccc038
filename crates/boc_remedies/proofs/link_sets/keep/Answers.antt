use Rattle.boc_remedies.specs.LinkSets.{weighs_more}
use Rattle.boc_remedies.proofs.InOrder.{put_there}
use Rattle.boc_remedies.proofs.link_sets.keep.Goals as goal

pub returns : goal.returns
returns c = cc (put_there (weighs_more c.args.own) c.args.best.now.items c.args.own, c.in_ok-insert.ensures.items, c.place_of-place.ensures.is, c.deref.ensures.value, c.truncate.ensures.items)
