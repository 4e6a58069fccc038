use Rattle.boc_chain.proofs.Calls.{dismiss_call}
use Rattle.boc_chain.proofs.link_chains.LinkChainsChains.dismiss.Goals as goal

pub invariant_of-self-clause-linked : goal.invariant_of-self-clause-linked
invariant_of-self-clause-linked c =
    let s = c.args.self.now in
    (dismiss_call s.last.items s.slots c.remove.new.self s.peak c.args.slot.index s.linked c.remove.ensures.updates c.requires.empty c.remove.ensures.len).0

pub returns-clause-lists : goal.returns-clause-lists
returns-clause-lists c =
    let s = c.args.self.now in
    (dismiss_call s.last.items s.slots c.remove.new.self s.peak c.args.slot.index s.linked c.remove.ensures.updates c.requires.empty c.remove.ensures.len).1
