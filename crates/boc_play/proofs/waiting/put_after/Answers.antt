use Rattle.boc_play.proofs.waiting.put_after.Goals as goal

pub put-requires : goal.put-requires
put-requires c = c.requires c.in-Some.before c.in-Some.is
