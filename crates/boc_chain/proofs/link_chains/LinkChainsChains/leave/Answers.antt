use Rattle.std.proofs.Common.{arith, length-set}
use Rattle.std.specs.Prelude.{None}
use Rattle.boc_chain.proofs.Calls.{some_leads, is_last, not_last, Leaves, leave_some, leave_some_answer, leave_blocked, leave_blocked_answer, leave_alone}
use Rattle.boc_chain.proofs.Calls.{leave_alone_answer}
use Rattle.boc_chain.proofs.link_chains.LinkChainsChains.leave.Goals as goal
use Rattle.boc_chain.proofs.link_chains.LinkChainsChains.leave.Goals.{After-pass_at}

pub pass_at-requires : goal.pass_at-requires
pass_at-requires c = some_leads c.args.self.now.linked c.args.slot.index c.args.i c.requires.there c.requires.granted

-- what is known as it leaves
leaves : (c : After-pass_at) → Leaves c.args.self.now.last.items c.args.self.now.slots c.pass_at.new.slots c.args.self.now.peak c.args.slot.index c.args.i
    c.cown_at-c.result c.pass_at.result
leaves c = record {
  fronts = record {
    linked = c.args.self.now.linked;
    there = c.requires.there;
    same = c.cown_at-c.ensures;
    granted = c.requires.granted;
    answer = c.pass_at.ensures.answer;
  };
  spelled = c.pass_at.ensures.spelled;
  placed = c.pass_at.ensures.placed;
  cowns_same = c.pass_at.ensures.other_cowns;
  places = c.pass_at.ensures.places;
  len = c.pass_at.ensures.len;
}

pub invariant_of-self : goal.invariant_of-self
invariant_of-self c = record { few = c.args.self.now.few; linked = (leave_some (leaves (goal.at.invariant_of-self c).After-pass_at) c.in-Some.is).0 }

pub invariant_of-self-then-is_slot : goal.invariant_of-self-then-is_slot
invariant_of-self-then-is_slot c =
    let w = leaves (goal.at.invariant_of-self-then-is_slot c).After-pass_at in
    record {
      few = omega (arith, c.args.self.now.few, length-set c.args.self.now.last.items c.cown_at-c.result None);
      linked = (leave_alone w ((is_last w.fronts c.index.ensures c.is_slot.ensures).0 c.if-is_slot.true)).0;
    }

pub invariant_of-self-else-is_slot : goal.invariant_of-self-else-is_slot
invariant_of-self-else-is_slot c =
    let w = leaves (goal.at.invariant_of-self-else-is_slot c).After-pass_at in
    record { few = c.args.self.now.few; linked = (leave_blocked w (not_last w.fronts c.index.ensures c.is_slot.ensures c.if-is_slot.false)).0 }

pub returns-in-Some-clause-answer : goal.returns-in-Some-clause-answer
returns-in-Some-clause-answer c = leave_some_answer (leaves (goal.at.returns-in-Some-clause-answer c).After-pass_at).fronts c.in-Some.is

pub returns-in-Some-clause-lists : goal.returns-in-Some-clause-lists
returns-in-Some-clause-lists c = (leave_some (leaves (goal.at.returns-in-Some-clause-lists c).After-pass_at) c.in-Some.is).1

pub returns-then-is_slot-clause-answer : goal.returns-then-is_slot-clause-answer
returns-then-is_slot-clause-answer c =
    let w = leaves (goal.at.returns-then-is_slot-clause-answer c).After-pass_at in
    leave_alone_answer w.fronts ((is_last w.fronts c.index.ensures c.is_slot.ensures).0 c.if-is_slot.true)

pub returns-then-is_slot-clause-lists : goal.returns-then-is_slot-clause-lists
returns-then-is_slot-clause-lists c =
    let w = leaves (goal.at.returns-then-is_slot-clause-lists c).After-pass_at in
    (leave_alone w ((is_last w.fronts c.index.ensures c.is_slot.ensures).0 c.if-is_slot.true)).1

pub returns-else-is_slot-clause-answer : goal.returns-else-is_slot-clause-answer
returns-else-is_slot-clause-answer c =
    let w = leaves (goal.at.returns-else-is_slot-clause-answer c).After-pass_at in
    leave_blocked_answer w.fronts c.in-None.is (not_last w.fronts c.index.ensures c.is_slot.ensures c.if-is_slot.false)

pub returns-else-is_slot-clause-lists : goal.returns-else-is_slot-clause-lists
returns-else-is_slot-clause-lists c =
    let w = leaves (goal.at.returns-else-is_slot-clause-lists c).After-pass_at in
    (leave_blocked w (not_last w.fronts c.index.ensures c.is_slot.ensures c.if-is_slot.false)).1

pub overflow_cast-slot : goal.overflow_cast-slot
overflow_cast-slot c = omega (arith, (c.args.self.now.linked.short c.args.slot.index c.args.i c.requires.there).0)

pub overflow_cast-i : goal.overflow_cast-i
overflow_cast-i c = omega (arith, (c.args.self.now.linked.short c.args.slot.index c.args.i c.requires.there).1)
