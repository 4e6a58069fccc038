use Rattle.std.proofs.Common.{ℕ, length, sym, ap, arith, length-take, length-drop}
use Rattle.boc_order.proofs.Listing.{there_is, read_between}
use Rattle.boc_order.proofs.links.Links.count.Goals as goal

pub index-requires : goal.index-requires
index-requires c = omega (arith, there_is _ _ _ _ (sym c.self.view_is) c.self.invariant c.requires, c.self.inside.first.ok.0)

pub overflow_add-row : goal.overflow_add-row
overflow_add-row c = omega (arith, there_is _ _ _ _ (sym c.self.view_is) c.self.invariant c.requires, c.self.inside.first.ok.0, c.self.inside.first.small)

pub index-requires-2 : goal.index-requires-2
index-requires-2 c = omega (arith, there_is _ _ _ _ (sym c.self.view_is) c.self.invariant c.requires, c.self.inside.first.ok.0)

pub overflow_sub-result : goal.overflow_sub-result
overflow_sub-result c = (read_between _ c.self.inside.list.items _ _ _ _ (sym c.self.view_is) c.self.invariant c.requires c.index-2.ensures c.index.ensures).0

pub returns : goal.returns
returns c =
    let b = read_between _ c.self.inside.list.items _ _ _ _ (sym c.self.view_is) c.self.invariant c.requires c.index-2.ensures c.index.ensures in
    omega (arith, ap length b.2, b.0, b.1, length-take {A = ℕ}, length-drop {A = ℕ})
