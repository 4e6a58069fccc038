use Rattle.boc_remedies.proofs.InOrder.{put_there}
use Rattle.boc_many_runs.specs.Lines.{goes_before}
use Rattle.boc_many_runs.proofs.lines.rank.Goals as goal

pub returns : goal.returns
returns c = cc (put_there (goes_before c.args.own) c.args.ranked.now.items c.args.own, c.in_ok-insert.ensures.items, c.place_of-place.ensures.is, c.deref.ensures.value)
