use Rattle.std.proofs.Common.{nat_lt}
use Rattle.boc_remedies.proofs.InOrder.{put_there}
use Rattle.boc_many_runs.proofs.counted.rank.Goals as goal

pub returns-clause-ranked : goal.returns-clause-ranked
returns-clause-ranked c = cc (put_there (λ other. nat_lt other.runs c.args.own.runs) c.args.best.now.items c.args.own, c.in_ok-insert.ensures.items, c.rank_of-place.ensures.is, c.deref.ensures.value, c.truncate.ensures.items)
