use Rattle.std.proofs.Common.{◌≡◌, ◌∙◌, ap, sym, refl, cond, true, false, Bool}
use Rattle.std.specs.Option.{option_map}
use Rattle.boc_chain.specs.declared.linked.Node.{Node}
use Rattle.boc_chain.specs.declared.request.Settled.TheVariants.{Lone, Linked, Blocked}
use Rattle.boc_chain.specs.Chain.{answer_behind}
use Rattle.boc_chain.specs.Linked.{links, seen}
use Rattle.boc_chain.proofs.Steps.{lone_before}
use Rattle.boc_chain.proofs.Placed.{holds_it, before_it}
use Rattle.boc_chain.proofs.Behind.{answered_behind}
use Rattle.boc_chain.proofs.linked.can_settle_at.Goals as goal

blocked_where : (b : Bool) → (b ≡ false → cond b Linked Blocked ≡ Blocked) × (cond b Linked Blocked ≡ Blocked → b ≡ false)
blocked_where true = (λ e. absurd (let f : true ≡ false = e in cc), λ e. absurd (let f : Linked ≡ Blocked = e in cc))
blocked_where false = (λ e. refl, λ e. refl)

pub link_at-requires : goal.link_at-requires
link_at-requires c = (holds_it c.args.slots.now c.requires.0 c.args.node c.requires.1.0 c.requires.1.1).exchanged

pub link_at-requires-in-Some : goal.link_at-requires-in-Some
link_at-requires-in-Some c = (before_it c.args.slots.now c.requires.0 c.args.node c.in-Some.before c.requires.1.0 c.link_at.result c.requires.1.1
    (c.link_at.ensures c.requires.0 c.requires.1.1.at) c.in-Some.is).exchanged

pub returns-in-None : goal.returns-in-None
returns-in-None c = λ d xs h.
    let e = lone_before (links c.args.slots.now) d c.args.node.slot xs (seen c.link_at.result) h.inside (ap (option_map seen) (c.link_at.ensures d h.at))
    (ap (option_map (λ (n : Node). n.slot)) c.in-None.is) in
    (λ f. absurd (let g : true ≡ false = f in cc), λ f. absurd (let g : Lone ≡ Blocked = ap answer_behind (sym e) ∙ f in cc))

pub returns-in-Some : goal.returns-in-Some
returns-in-Some c = λ d xs h.
    let is = answered_behind h (c.link_at.ensures d h.at) c.in-Some.is (c.link_at-in-Some.ensures d) c.link_at-in-Some.result.scheduled refl in
    let w = blocked_where c.link_at-in-Some.result.scheduled in
    (λ f. sym is ∙ w.0 f, λ f. w.1 (is ∙ f))
