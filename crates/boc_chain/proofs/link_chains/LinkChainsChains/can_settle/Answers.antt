use Rattle.std.proofs.Common.{◌≡◌, ◌↔◌, false, arith}
use Rattle.boc_chain.specs.declared.request.Settled.TheVariants.{Blocked}
use Rattle.boc_chain.specs.Chain.{settle_answer}
use Rattle.boc_chain.proofs.Calls.{some_holds, said_of}
use Rattle.boc_chain.proofs.link_chains.LinkChainsChains.can_settle.Goals as goal

pub can_settle_at-requires : goal.can_settle_at-requires
can_settle_at-requires c = some_holds c.args.self.now.linked c.args.slot.index c.args.i c.requires.there c.requires.exchanged

pub returns : goal.returns
returns c = record {
  blocked = said_of c.args.self.now.linked c.args.slot.index c.args.i c.requires.there
      (λ xs. (c.can_settle_at.result ≡ false) ↔ (settle_answer c.args.slot.index xs ≡ Blocked)) c.can_settle_at.ensures c.requires.exchanged;
}

pub overflow_cast-slot : goal.overflow_cast-slot
overflow_cast-slot c = omega (arith, (c.args.self.now.linked.short c.args.slot.index c.args.i c.requires.there).0)

pub overflow_cast-i : goal.overflow_cast-i
overflow_cast-i c = omega (arith, (c.args.self.now.linked.short c.args.slot.index c.args.i c.requires.there).1)
