use Rattle.std.proofs.Common.{◌≡◌, ◌+◌, ◌-◌, ◌<◌, ℕ, List, reverse, sym, ◌∙◌, ap, subst, arith}
use Rattle.boc_end_orders.specs.declared.trail.Link.{Link}
use Rattle.boc_end_orders.proofs.Trails.{IsRead, read_none, read_more, read_all}
use Rattle.boc_end_orders.proofs.trail.followed.Goals as goal

pub loop-left-init : goal.loop-left-init
loop-left-init c =
    subst (λ (xs : List ℕ). IsRead c.args.links.now c.args.number c.args.number xs) (sym c.new-parents.ensures.items)
    (read_none c.args.links.now c.args.number c.requires.there)

pub link_at-link-requires : goal.link_at-link-requires
link_at-link-requires c = omega (arith, c.loop-left-test.true, c.loop-left.invariant.there)

pub loop-left-smaller : goal.loop-left-smaller
loop-left-smaller c =
    omega (arith, c.requires.down (c.loop-left.left - 1) c.link_at-link.result c.link_at-link.ensures, c.loop-left-test.true)

pub loop-left-preserved : goal.loop-left-preserved
loop-left-preserved c =
    let links : List Link = c.args.links.now in
    let left = c.loop-left.left in
    let n : ℕ = left - 1 in
    let link : Link = c.link_at-link.result in
    let one : n + 1 ≡ left = omega (arith, c.loop-left-test.true) in
    subst (λ (xs : List ℕ). IsRead links c.args.number link.before xs) (sym c.in_ok-push.ensures.items)
    (read_more links c.args.number left c.loop-left.parents.items n link c.requires.down c.loop-left.invariant one c.link_at-link.ensures)

pub returns : goal.returns
returns c =
    let z : c.loop-left.left ≡ 0 = omega (arith, c.loop-left-test.false) in
    c.reverse.ensures.items
    ∙ ap (λ (xs : List ℕ). reverse xs) c.in_ok-push-2.ensures.items
    ∙ read_all c.args.links.now c.args.number c.loop-left.parents.items
    (subst (λ (k : ℕ). IsRead c.args.links.now c.args.number k c.loop-left.parents.items) z c.loop-left.invariant)
