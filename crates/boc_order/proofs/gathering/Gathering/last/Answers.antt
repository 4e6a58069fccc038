use Rattle.boc_order.proofs.Filling.{read_last}
use Rattle.boc_order.proofs.gathering.Gathering.last.Goals as goal

pub slice_bounds-result-count : goal.slice_bounds-result-count
slice_bounds-result-count c = rw c.deref.ensures.value (read_last _ c.args.self.now.list.items _ _ c.requires.bounds c.requires.last c.index.ensures).0

pub slice_bounds-result-start : goal.slice_bounds-result-start
slice_bounds-result-start c = rw c.deref.ensures.value (read_last _ c.args.self.now.list.items _ _ c.requires.bounds c.requires.last c.index.ensures).0

pub returns : goal.returns
returns c = rw c.deref.ensures.value (read_last _ c.args.self.now.list.items _ _ c.requires.bounds c.requires.last c.index.ensures).1
