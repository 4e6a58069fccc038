use Rattle.std.proofs.Common.{ap}
use Rattle.std.specs.Option.{option_map}
use Rattle.boc_chain.specs.declared.linked.Node.{Node}
use Rattle.boc_chain.specs.Linked.{links, seen}
use Rattle.boc_chain.proofs.Steps.{passed_some}
use Rattle.boc_chain.proofs.Placed.{behind_it, has_stored, passed_placed}
use Rattle.boc_chain.proofs.linked.pass_at.Goals as goal

pub change_link-requires : goal.change_link-requires
change_link-requires c = (behind_it c.args.slots.now c.requires.0 c.args.node c.in-Some.next c.requires.1.0 c.link_at.result c.requires.1.1
    (c.link_at.ensures c.requires.0 c.requires.1.1.at) c.in-Some.is).exchanged

pub returns-in-Some-clause-spelled : goal.returns-in-Some-clause-spelled
returns-in-Some-clause-spelled c = λ d xs h.
    let got = c.link_at.ensures d h.at in
    let it = behind_it c.args.slots.now d c.args.node c.in-Some.next xs c.link_at.result h got c.in-Some.is in
    let behind = has_stored c.args.slots.now d c.in-Some.next.slot xs h.front.spelled it.there in
    passed_some (links c.args.slots.now) (links c.change_link.new.slots) d c.args.node.slot c.in-Some.next.slot xs (seen c.link_at.result) (seen behind.0)
    h.front
    (ap (option_map seen) got) (ap (option_map (λ (n : Node). n.slot)) c.in-Some.is) (ap (option_map seen) behind.1)
    (ap (option_map seen) (c.change_link.ensures.here d behind.0 it.at behind.1))
    (λ t n. ap (option_map seen) (c.change_link.ensures.other_slots t d n))

pub returns-in-Some-clause-placed : goal.returns-in-Some-clause-placed
returns-in-Some-clause-placed c = λ d xs h.
    let it = behind_it c.args.slots.now d c.args.node c.in-Some.next xs c.link_at.result h (c.link_at.ensures d h.at) c.in-Some.is in
    let behind = has_stored c.args.slots.now d c.in-Some.next.slot xs h.front.spelled it.there in
    passed_placed c.args.slots.now c.change_link.new.slots d c.args.node c.in-Some.next xs behind.0 h it behind.1
    (c.change_link.ensures.here d behind.0 it.at behind.1)
    (λ t n. c.change_link.ensures.other_slots t d n) c.change_link.ensures.places

pub returns-in-Some-clause-other_cowns : goal.returns-in-Some-clause-other_cowns
returns-in-Some-clause-other_cowns c = λ d s e xs h n.
    let it = behind_it c.args.slots.now d c.args.node c.in-Some.next xs c.link_at.result h (c.link_at.ensures d h.at) c.in-Some.is in
    c.change_link.ensures.other_cowns d s e it.at n
