use Rattle.std.proofs.Common.{◌∙◌, sym, arith}
use Rattle.boc_chain.proofs.Calls.{some_leads, Fronts, is_last, leave_told_next, leave_told_last}
use Rattle.boc_chain.proofs.link_chains.LinkChainsChains.can_leave.Goals as goal
use Rattle.boc_chain.proofs.link_chains.LinkChainsChains.can_leave.Goals.{After-next_at}

pub next_at-requires : goal.next_at-requires
next_at-requires c = some_leads c.args.self.now.linked c.args.slot.index c.args.i c.requires.there c.requires.granted

-- what is known of the request
fronts : (c : After-next_at) → Fronts c.args.self.now.last.items c.args.self.now.slots c.args.self.now.peak c.args.slot.index c.args.i c.cown_at-c.result
    c.next_at.result
fronts c = record {
  linked = c.args.self.now.linked;
  there = c.requires.there;
  same = c.cown_at-c.ensures;
  granted = c.requires.granted;
  answer = c.next_at.ensures;
}

pub returns-then-is_some : goal.returns-then-is_some
returns-then-is_some c = record {
  blocked = leave_told_next (fronts (goal.at.returns-then-is_some c).After-next_at) c.is_some.result c.if-is_some.true
      c.is_some.ensures;
}

pub returns-else-is_some : goal.returns-else-is_some
returns-else-is_some c =
    let w = fronts (goal.at.returns-else-is_some c).After-next_at in
    record { blocked = leave_told_last w c.is_slot.result (sym c.is_some.ensures ∙ c.if-is_some.false) (is_last w c.index.ensures c.is_slot.ensures) }

pub overflow_cast-slot : goal.overflow_cast-slot
overflow_cast-slot c = omega (arith, (c.args.self.now.linked.short c.args.slot.index c.args.i c.requires.there).0)

pub overflow_cast-i : goal.overflow_cast-i
overflow_cast-i c = omega (arith, (c.args.self.now.linked.short c.args.slot.index c.args.i c.requires.there).1)
