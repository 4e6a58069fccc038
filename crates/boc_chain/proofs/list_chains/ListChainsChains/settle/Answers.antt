use Rattle.std.proofs.Common.{◌∙◌, ap}
use Rattle.boc_chain.specs.Chain.{cown, before, settled_behind}
use Rattle.boc_chain.specs.Kept.{place_at}
use Rattle.boc_chain.proofs.Lines.{one_line}
use Rattle.boc_chain.proofs.list_chains.ListChainsChains.settle.Goals as goal

pub returns-clause-lists : goal.returns-clause-lists
returns-clause-lists c =
    let s = c.args.self.now in
    let k = cown (place_at s.places.items c.args.slot.index) c.args.i in
    one_line s.lines.items c.cown_at-c.result k c.settle_in.new.requests c.index_mut.result.now
    (λ q. settled_behind (before c.args.slot.index q) c.args.slot.index q)
    (c.cown_at-c.ensures ∙ ap (λ ps. cown (place_at ps c.args.slot.index) c.args.i) c.deref.ensures.value)
    (s.kept.in_range c.args.slot.index c.args.i c.requires.there)
    c.index_mut.ensures.value
    c.settle_in.ensures.after
