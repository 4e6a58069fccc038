use Rattle.std.proofs.Common.{sym, subst}
use Rattle.boc_runs.specs.Run.{IsWholeRun}
use Rattle.boc_follow.specs.Following.{Following}
use Rattle.boc_follow.proofs.Besides.{whole, complete}
use Rattle.boc_follow.proofs.follower.Follower.is_complete.Goals as goal

pub returns : goal.returns
returns c =
    let o = c.self.inside in
    let run = c.self.invariant.run in (
      λ yes. subst (λ (x : Following). IsWholeRun x.program x.log) c.self.view_is (whole o.program.now o.rules.events run (c.is_complete.ensures.0 yes)),
      λ over. c.is_complete.ensures.1
          (complete o.program.now o.rules.events run (subst (λ (x : Following). IsWholeRun x.program x.log) (sym c.self.view_is) over)),
    )
