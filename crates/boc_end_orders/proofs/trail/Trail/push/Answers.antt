use Rattle.std.proofs.Common.{◌≡◌, ◌<◌, ◌≤◌, ◌+◌, [], ◌∷◌, ◌++◌, ℕ, length, List, sym, subst, ◌∙◌, ap, arith}
use Rattle.boc_end_orders.specs.declared.trail.Link.{Link}
use Rattle.boc_end_orders.specs.Orders.{order_at}
use Rattle.boc_end_orders.specs.TrailView.{orders_after, AreDown}
use Rattle.boc_end_orders.proofs.Trails.{many_orders, down_more, orders_more}
use Rattle.boc_end_orders.proofs.trail.Trail.push.Goals as goal

pub invariant_of-self-2 : goal.invariant_of-self-2
invariant_of-self-2 c =
    let old : List Link = c.self.inside.links.items in
    let link : Link = record { before = c.args.before; parent = c.args.parent } in
    let low : c.args.before < length (orders_after old) = subst (λ (os : List (List ℕ)). c.args.before < length os) (sym c.self.view_is) c.requires in
    subst AreDown (sym c.in_ok-push.ensures.items) (down_more old link c.self.invariant (omega (arith, low, many_orders old)))

pub returns-clause-orders : goal.returns-clause-orders
returns-clause-orders c =
    let old : List Link = c.self.inside.links.items in
    let link : Link = record { before = c.args.before; parent = c.args.parent } in
    subst (λ (os : List (List ℕ)). orders_after c.push.new.self.items ≡ os ++ ((order_at os c.args.before ++ c.args.parent ∷ []) ∷ [])) c.self.view_is
    (ap orders_after c.in_ok-push.ensures.items ∙ orders_more old link)

pub returns-clause-number : goal.returns-clause-number
returns-clause-number c =
    omega (
      arith,
      c.len-many.ensures,
      c.self.inside.links.ok.0,
      many_orders c.self.inside.links.items,
      ap (length {A = List ℕ}) c.self.view_is,
    )
