use Rattle.std.proofs.Common.{◌∙◌, arith}
use Rattle.boc_chain.proofs.Calls.{swap_call, swap_answer}
use Rattle.boc_chain.proofs.link_chains.LinkChainsChains.swap.Goals as goal

pub invariant_of-self-clause-linked : goal.invariant_of-self-clause-linked
invariant_of-self-clause-linked c =
    (swap_call c.args.self.now.linked c.args.slot.index c.args.i c.requires.there c.cown_at-c.result c.cown_at-c.ensures c.index-before.result.now
    c.index-before.ensures c.push_link.new.slots c.requires.next c.push_link.ensures.here c.push_link.ensures.other_slots
    c.push_link.ensures.other_cowns c.push_link.ensures.place c.push_link.ensures.other_places c.push_link.ensures.len).0

pub returns-clause-before : goal.returns-clause-before
returns-clause-before c = c.slot_in.ensures ∙ swap_answer c.args.self.now.linked c.args.slot.index c.args.i c.requires.there c.cown_at-c.result
    c.cown_at-c.ensures c.index-before.result.now c.index-before.ensures

pub returns-clause-lists : goal.returns-clause-lists
returns-clause-lists c =
    (swap_call c.args.self.now.linked c.args.slot.index c.args.i c.requires.there c.cown_at-c.result c.cown_at-c.ensures c.index-before.result.now
    c.index-before.ensures c.push_link.new.slots c.requires.next c.push_link.ensures.here c.push_link.ensures.other_slots
    c.push_link.ensures.other_cowns c.push_link.ensures.place c.push_link.ensures.other_places c.push_link.ensures.len).1

pub overflow_cast-slot : goal.overflow_cast-slot
overflow_cast-slot c = omega (arith, (c.args.self.now.linked.short c.args.slot.index c.args.i c.requires.there).0)

pub overflow_cast-i : goal.overflow_cast-i
overflow_cast-i c = omega (arith, (c.args.self.now.linked.short c.args.slot.index c.args.i c.requires.there).1)
