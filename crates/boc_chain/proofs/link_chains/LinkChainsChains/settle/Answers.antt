use Rattle.std.proofs.Common.{◌≡◌, arith}
use Rattle.boc_chain.specs.Chain.{settle_answer}
use Rattle.boc_chain.proofs.Calls.{some_holds, said_of, settle_call}
use Rattle.boc_chain.proofs.link_chains.LinkChainsChains.settle.Goals as goal

pub settle_at-requires : goal.settle_at-requires
settle_at-requires c = some_holds c.args.self.now.linked c.args.slot.index c.args.i c.requires.there c.requires.exchanged

pub invariant_of-self-clause-linked : goal.invariant_of-self-clause-linked
invariant_of-self-clause-linked c =
    (settle_call c.args.self.now.linked c.args.slot.index c.args.i c.requires.there c.settle_at.new.slots c.requires.exchanged
    c.settle_at.ensures.spelled c.settle_at.ensures.placed c.settle_at.ensures.other_cowns c.settle_at.ensures.places c.settle_at.ensures.len).0

pub returns-clause-answer : goal.returns-clause-answer
returns-clause-answer c = said_of c.args.self.now.linked c.args.slot.index c.args.i c.requires.there
    (λ xs. c.settle_at.result ≡ settle_answer c.args.slot.index xs) c.settle_at.ensures.answer c.requires.exchanged

pub returns-clause-lists : goal.returns-clause-lists
returns-clause-lists c =
    (settle_call c.args.self.now.linked c.args.slot.index c.args.i c.requires.there c.settle_at.new.slots c.requires.exchanged
    c.settle_at.ensures.spelled c.settle_at.ensures.placed c.settle_at.ensures.other_cowns c.settle_at.ensures.places c.settle_at.ensures.len).1

pub overflow_cast-slot : goal.overflow_cast-slot
overflow_cast-slot c = omega (arith, (c.args.self.now.linked.short c.args.slot.index c.args.i c.requires.there).0)

pub overflow_cast-i : goal.overflow_cast-i
overflow_cast-i c = omega (arith, (c.args.self.now.linked.short c.args.slot.index c.args.i c.requires.there).1)
