-- How orders of spawns are seen.
use Rattle.std.specs.Prelude.{◌≡◌, ℕ, ◌≤◌, List, [], ◌∷◌, ◌++◌, Some, slice_get}
use Rattle.boc_end_orders.specs.declared.trail.Link.{Link}
use Rattle.boc_end_orders.specs.declared.trail.Trail.TheInside.{Inside}
use Rattle.boc_end_orders.specs.Orders.{order_at}

-- the orders, and after them those of the links, each of which names one before it
abbrev pub ordered : List (List ℕ) → List Link → List (List ℕ)
ordered orders [] = orders
ordered orders (link ∷ links) = ordered (orders ++ (order_at orders link.before ++ link.parent ∷ []) ∷ []) links

-- the order of main alone, and after it those of the links
abbrev pub orders_after : List Link → List (List ℕ)
orders_after links = ordered ((0 ∷ []) ∷ []) links

-- each link leads to an order before its own
abbrev pub AreDown : List Link → Type 0
AreDown links = (n : ℕ) (link : Link) → slice_get links n ≡ Some link → link.before ≤ n

abbrev pub orders_of : Inside → List (List ℕ)
orders_of t = orders_after t.links.items

abbrev pub LeadDown : Inside → Type 0
LeadDown t = AreDown t.links.items
