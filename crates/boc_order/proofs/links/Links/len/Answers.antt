use Rattle.std.proofs.Common.{ap, sym, length}
use Rattle.boc_order.proofs.Listing.{len_is}
use Rattle.boc_order.proofs.links.Links.len.Goals as goal

pub returns : goal.returns
returns c = len_is _ _ _ _ (sym c.self.view_is) c.self.invariant (ap length c.as_slice.ensures.value)
