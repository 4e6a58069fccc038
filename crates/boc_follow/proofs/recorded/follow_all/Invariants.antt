use Rattle.boc_follow.proofs.Refusals.{Followed}
use Rattle.boc_follow.proofs.recorded.follow_all.Given as goal

abbrev pub invariant-loop-place : goal.invariant-loop-place
invariant-loop-place g l = Followed l.fn.follower.program l.events l.follower l.place
