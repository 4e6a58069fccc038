use Rattle.std.proofs.Common.{◌≡◌, drop}
use Rattle.std.specs.Prelude.{slice_set}
use Rattle.boc_greedy.specs.declared.frontier.RowState.TheVariants.{Over}
use Rattle.boc_greedy.specs.Frontier.{IsFrontierBut}
use Rattle.boc_greedy.proofs.frontier.Frontier.end.Given as goal

-- the followers from this one on are left
abbrev pub invariant-loop-follower : goal.invariant-loop-follower
invariant-loop-follower l = record {
  kept : IsFrontierBut l.rows (drop l.follower-index l.follower-items) l.self;
  states : l.self.states.items ≡ slice_set l.fn.self.states.items l.row Over;
  followers : l.self.followers.now ≡ l.fn.self.followers.now;
}
