use Rattle.std.proofs.Common.{◌∙◌, ◌<◌, ap, sym, subst, refl, true, false, arith}
use Rattle.std.specs.Option.{option_map}
use Rattle.boc_chain.specs.declared.linked.Node.{Node}
use Rattle.boc_chain.specs.Chain.{before, answer_behind, times, cowns_of, exchanged_of}
use Rattle.boc_chain.specs.Linked.{links, seen}
use Rattle.boc_chain.proofs.Steps.{lone_before, lone_spelled}
use Rattle.boc_chain.proofs.Placed.{at_kept, placed_kept, slots_settled_behind, holds_it, before_it, lone_placed}
use Rattle.boc_chain.proofs.Behind.{answered_behind, blocked_behind, linked_behind}
use Rattle.boc_chain.proofs.linked.settle_at.Goals as goal

pub link_at-link-requires : goal.link_at-link-requires
link_at-link-requires c = (holds_it c.args.slots.now c.requires.0 c.args.node c.requires.1.0 c.requires.1.1).exchanged

pub change_link-requires : goal.change_link-requires
change_link-requires c = (holds_it c.args.slots.now c.requires.0 c.args.node c.requires.1.0 c.requires.1.1).exchanged

pub link_at-ahead-requires : goal.link_at-ahead-requires
link_at-ahead-requires c = (before_it c.args.slots.now c.requires.0 c.args.node c.in-Some.before c.requires.1.0 c.link_at-link.result c.requires.1.1
    (c.link_at-link.ensures c.requires.0 c.requires.1.1.at) c.in-Some.is).exchanged

pub change_link-requires-then-ahead : goal.change_link-requires-then-ahead
change_link-requires-then-ahead c = (before_it c.args.slots.now c.requires.0 c.args.node c.in-Some.before c.requires.1.0 c.link_at-link.result c.requires.1.1
    (c.link_at-link.ensures c.requires.0 c.requires.1.1.at) c.in-Some.is).exchanged

pub change_link-requires-then-ahead-2 : goal.change_link-requires-then-ahead-2
change_link-requires-then-ahead-2 c =
    omega (
      arith,
      (holds_it c.args.slots.now c.requires.0 c.args.node c.requires.1.0 c.requires.1.1).exchanged,
      ap exchanged_of
          (c.change_link-then-ahead.ensures.places c.args.node.slot),
    )

pub returns-in-None-clause-answer : goal.returns-in-None-clause-answer
returns-in-None-clause-answer c = λ d xs h.
    ap answer_behind (sym (lone_before (links c.args.slots.now) d c.args.node.slot xs (seen c.link_at-link.result) h.inside
    (ap (option_map seen) (c.link_at-link.ensures d h.at)) (ap (option_map (λ (n : Node). n.slot)) c.in-None.is)))

pub returns-in-None-clause-spelled : goal.returns-in-None-clause-spelled
returns-in-None-clause-spelled c = λ d xs h.
    lone_spelled (links c.args.slots.now) (links c.change_link.new.slots) d c.args.node.slot xs (seen c.link_at-link.result) h.inside
    (ap (option_map seen) (c.link_at-link.ensures d h.at)) (ap (option_map (λ (n : Node). n.slot)) c.in-None.is)
    (ap (option_map seen) (c.change_link.ensures.here d c.link_at-link.result h.at (c.link_at-link.ensures d h.at)))
    (λ t n. ap (option_map seen) (c.change_link.ensures.other_slots t d n))

pub returns-in-None-clause-placed : goal.returns-in-None-clause-placed
returns-in-None-clause-placed c = λ d xs h.
    lone_placed c.args.slots.now c.change_link.new.slots d c.args.node xs (before c.args.node.slot xs) c.link_at-link.result h (c.link_at-link.ensures d h.at)
    (c.change_link.ensures.here d c.link_at-link.result h.at (c.link_at-link.ensures d h.at)) (λ t n. c.change_link.ensures.other_slots t d n)
    c.change_link.ensures.places

pub returns-then-ahead-clause-answer : goal.returns-then-ahead-clause-answer
returns-then-ahead-clause-answer c = λ d xs h. answered_behind h (c.link_at-link.ensures d h.at) c.in-Some.is (c.link_at-ahead.ensures d) true c.if-ahead.true

pub returns-then-ahead-clause-spelled : goal.returns-then-ahead-clause-spelled
returns-then-ahead-clause-spelled c = λ d xs h.
    (linked_behind h (c.link_at-link.ensures d h.at) c.in-Some.is (c.link_at-ahead.ensures d) c.change_link-then-ahead.new.slots
    c.change_link-then-ahead-2.new.slots c.if-ahead.true
    c.change_link-then-ahead.ensures.here c.change_link-then-ahead.ensures.other_slots c.change_link-then-ahead.ensures.places
    c.change_link-then-ahead-2.ensures.here c.change_link-then-ahead-2.ensures.other_slots c.change_link-then-ahead-2.ensures.places).0

pub returns-then-ahead-clause-placed : goal.returns-then-ahead-clause-placed
returns-then-ahead-clause-placed c = λ d xs h.
    (linked_behind h (c.link_at-link.ensures d h.at) c.in-Some.is (c.link_at-ahead.ensures d) c.change_link-then-ahead.new.slots
    c.change_link-then-ahead-2.new.slots c.if-ahead.true
    c.change_link-then-ahead.ensures.here c.change_link-then-ahead.ensures.other_slots c.change_link-then-ahead.ensures.places
    c.change_link-then-ahead-2.ensures.here c.change_link-then-ahead-2.ensures.other_slots c.change_link-then-ahead-2.ensures.places).1

pub returns-then-ahead-clause-other_cowns : goal.returns-then-ahead-clause-other_cowns
returns-then-ahead-clause-other_cowns c = λ d s e xs h n.
    let it = before_it c.args.slots.now d c.args.node c.in-Some.before xs c.link_at-link.result h (c.link_at-link.ensures d h.at) c.in-Some.is in
    let at = at_kept c.args.slots.now c.change_link-then-ahead.new.slots c.args.node d (ap cowns_of (c.change_link-then-ahead.ensures.places c.args.node.slot))
    h.at in
    c.change_link-then-ahead-2.ensures.other_cowns d s e at n ∙ c.change_link-then-ahead.ensures.other_cowns d s e it.at n

pub returns-else-ahead-clause-answer : goal.returns-else-ahead-clause-answer
returns-else-ahead-clause-answer c = λ d xs h. answered_behind h (c.link_at-link.ensures d h.at) c.in-Some.is (c.link_at-ahead.ensures d) false c.if-ahead.false

pub returns-else-ahead-clause-spelled : goal.returns-else-ahead-clause-spelled
returns-else-ahead-clause-spelled c = λ d xs h. blocked_behind h (c.link_at-link.ensures d h.at) c.in-Some.is (c.link_at-ahead.ensures d) c.if-ahead.false

pub returns-else-ahead-clause-placed : goal.returns-else-ahead-clause-placed
returns-else-ahead-clause-placed c = λ d xs h.
    placed_kept c.args.slots.now c.args.slots.now d xs _ h.placed
    (λ t m. subst (λ ys. 0 < times t ys) (slots_settled_behind (before c.args.node.slot xs) c.args.node.slot xs) m) (λ t. refl) (λ t. refl)
