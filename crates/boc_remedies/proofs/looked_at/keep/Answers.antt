use Rattle.boc_remedies.specs.LookedAt.{is_better}
use Rattle.boc_remedies.proofs.InOrder.{put_there}
use Rattle.boc_remedies.proofs.looked_at.keep.Goals as goal

pub returns : goal.returns
returns c = cc (
  put_there (is_better c.args.own) c.args.best.now.items c.args.own,
  c.in_ok-insert.ensures.items,
  c.place_of-place.ensures.is,
  c.deref.ensures.value,
  c.truncate.ensures.items,
)
