use Rattle.std.proofs.Common.{◌≡◌, ◌<◌, ◌≤◌, ℕ, List, length, sym, ◌∙◌, ap, subst, arith}
use Rattle.boc_end_orders.specs.declared.trail.Link.{Link}
use Rattle.boc_end_orders.specs.Orders.{order_at}
use Rattle.boc_end_orders.specs.TrailView.{AreDown, orders_after}
use Rattle.boc_end_orders.proofs.Trails.{many_orders}
use Rattle.boc_end_orders.proofs.trail.Trail.order.Goals as goal

pub followed-requires-clause-down : goal.followed-requires-clause-down
followed-requires-clause-down c = subst AreDown (sym c.deref.ensures.value) c.self.invariant

pub followed-requires-clause-there : goal.followed-requires-clause-there
followed-requires-clause-there c =
    let links : List Link = c.self.inside.links.items in
    let low = subst (λ (os : List (List ℕ)). c.args.number < length os) (sym c.self.view_is) c.requires in
    omega (arith, low, many_orders links, ap (length {A = Link}) c.deref.ensures.value)

pub returns : goal.returns
returns c =
    subst (λ (os : List (List ℕ)). c.in_ok-parents.parents.items ≡ order_at os c.args.number) c.self.view_is
    (c.in_ok-parents.ensures ∙ ap (λ (links : List Link). order_at (orders_after links) c.args.number) c.deref.ensures.value)
