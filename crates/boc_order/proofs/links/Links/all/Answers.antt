use Rattle.std.proofs.Common.{sym, arith}
use Rattle.boc_order.proofs.Filling.{first_read}
use Rattle.boc_order.proofs.links.Links.all.Goals as goal

pub offset_bounds-deref-index : goal.offset_bounds-deref-index
offset_bounds-deref-index c = omega (
  arith,
  (first_read _ c.self.inside.list.items _ c.self.invariant c.index.ensures).0,
  c.self.inside.list.ok.0,
  c.self.inside.list.small,
)

pub slice_bounds-result-count : goal.slice_bounds-result-count
slice_bounds-result-count c = rw c.deref.ensures.value (first_read _ c.self.inside.list.items _ c.self.invariant c.index.ensures).0

pub slice_bounds-result-start : goal.slice_bounds-result-start
slice_bounds-result-start c = rw c.deref.ensures.value (first_read _ c.self.inside.list.items _ c.self.invariant c.index.ensures).0

pub returns : goal.returns
returns c = rw (c.deref.ensures.value, sym c.self.view_is) (first_read _ c.self.inside.list.items _ c.self.invariant c.index.ensures).1
