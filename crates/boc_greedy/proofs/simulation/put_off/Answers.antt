use Rattle.std.proofs.Common.{rules}
use Rattle.std.specs.BinaryHeap.PeekMut.{peek_mut_top, peek_mut_rest}
use Rattle.boc_greedy.proofs.Queued.{put_back}
use Rattle.boc_greedy.proofs.simulation.put_off.Goals as goal

pub returns-in-Some : goal.returns-in-Some
returns-in-Some c = λ before row q on.
    (let back = c.drop-top.ensures.permutation (search rules) in
    let heap = c.drop-top.ensures.heap_order (search rules) (c.in-Some.ensures.heap_order q.ordered) in
    let put = put_back _ (peek_mut_rest c.in-Some.top) _ (peek_mut_top c.in-Some.top) before c.args.tick row q on c.in-Some.ensures.top
    c.in-Some.ensures.permutation heap
    (rw c.deref.ensures at back) in
    search rules)
