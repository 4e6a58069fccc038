use Rattle.std.proofs.Common.{sym, arith}
use Rattle.boc_order.proofs.Listing.{there_is, read_between}
use Rattle.boc_order.proofs.links.Links.of.Goals as goal

pub index-requires : goal.index-requires
index-requires c = omega (arith, there_is _ _ _ _ (sym c.self.view_is) c.self.invariant c.requires, c.self.inside.first.ok.0)

pub overflow_add-row : goal.overflow_add-row
overflow_add-row c = omega (arith, there_is _ _ _ _ (sym c.self.view_is) c.self.invariant c.requires, c.self.inside.first.ok.0, c.self.inside.first.small)

pub index-requires-2 : goal.index-requires-2
index-requires-2 c = omega (arith, there_is _ _ _ _ (sym c.self.view_is) c.self.invariant c.requires, c.self.inside.first.ok.0)

pub offset_bounds-deref-index : goal.offset_bounds-deref-index
offset_bounds-deref-index c =
    let b = read_between _ c.self.inside.list.items _ _ _ _ (sym c.self.view_is) c.self.invariant c.requires c.index.ensures c.index-2.ensures in
    omega (arith, b.0, b.1, c.self.inside.list.ok.0, c.self.inside.list.small)

pub slice_bounds-result-count : goal.slice_bounds-result-count
slice_bounds-result-count c = (read_between _ c.self.inside.list.items _ _ _ _ (sym c.self.view_is) c.self.invariant c.requires c.index.ensures
    c.index-2.ensures).0

pub slice_bounds-result-start : goal.slice_bounds-result-start
slice_bounds-result-start c = (read_between _ c.self.inside.list.items _ _ _ _ (sym c.self.view_is) c.self.invariant c.requires c.index.ensures
    c.index-2.ensures).0

pub slice_bounds-result-end : goal.slice_bounds-result-end
slice_bounds-result-end c = rw c.deref.ensures.value (read_between _ c.self.inside.list.items _ _ _ _ (sym c.self.view_is) c.self.invariant c.requires
    c.index.ensures c.index-2.ensures).1

pub returns : goal.returns
returns c = rw c.deref.ensures.value (read_between _ c.self.inside.list.items _ _ _ _ (sym c.self.view_is) c.self.invariant c.requires c.index.ensures
    c.index-2.ensures).2
