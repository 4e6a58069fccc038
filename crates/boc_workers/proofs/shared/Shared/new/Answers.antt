use Rattle.boc_workers.proofs.Reached.{reached_first}
use Rattle.boc_workers.proofs.shared.Shared.new.Goals as goal

pub invariant_of-result-clause-reached : goal.invariant_of-result-clause-reached
invariant_of-result-clause-reached g c = reached_first c.in_ok-dispatcher.dispatcher c.args.program.now c.in_ok-dispatcher.ensures
