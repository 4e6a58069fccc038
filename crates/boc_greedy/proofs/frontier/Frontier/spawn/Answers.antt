use Rattle.boc_greedy.proofs.Queueing.{queued_set}
use Rattle.boc_greedy.proofs.Waking.{spawned}
use Rattle.boc_greedy.proofs.frontier.Frontier.spawn.Goals as goal

pub wake-requires-clause-set : goal.wake-requires-clause-set
wake-requires-clause-set c = queued_set _ _ _ c.requires.frontier.1.are_ready

pub returns-clause-kept : goal.returns-clause-kept
returns-clause-kept c =
    let f = c.args.self.now in
    let w = c.wake.ensures in
    let (waits, is) = c.requires.frontier in
    rw (w.states, w.unmet, w.followers)
    (waits, spawned c.args.rows.now waits f.followers.now f.states.items f.unmet.items f.ready c.args.row _ is c.requires.unspawned w.set w.rows)
