use Rattle.std.proofs.Common.{arith}
use Rattle.boc_chain.proofs.Calls.{own_exchanged, flag_call}
use Rattle.boc_chain.proofs.link_chains.LinkChainsChains.flag.Goals as goal

pub change_link-requires : goal.change_link-requires
change_link-requires c = own_exchanged c.args.self.now.linked c.args.slot.index c.args.i c.requires.there c.requires.exchanged

pub invariant_of-self-clause-linked : goal.invariant_of-self-clause-linked
invariant_of-self-clause-linked c =
    (flag_call c.args.self.now.linked c.args.slot.index c.args.i c.requires.there c.change_link.new.slots c.requires.exchanged
    c.change_link.ensures.here c.change_link.ensures.other_slots c.change_link.ensures.other_cowns c.change_link.ensures.places
    c.change_link.ensures.len).0

pub returns-clause-lists : goal.returns-clause-lists
returns-clause-lists c =
    (flag_call c.args.self.now.linked c.args.slot.index c.args.i c.requires.there c.change_link.new.slots c.requires.exchanged
    c.change_link.ensures.here c.change_link.ensures.other_slots c.change_link.ensures.other_cowns c.change_link.ensures.places
    c.change_link.ensures.len).1

pub overflow_cast-node : goal.overflow_cast-node
overflow_cast-node c = omega (arith, (c.args.self.now.linked.short c.args.slot.index c.args.i c.requires.there).0)

pub overflow_cast-node-2 : goal.overflow_cast-node-2
overflow_cast-node-2 c = omega (arith, (c.args.self.now.linked.short c.args.slot.index c.args.i c.requires.there).1)
