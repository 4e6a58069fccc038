use Rattle.std.proofs.Common.{◌≡◌, take}
use Rattle.boc_end_orders.proofs.Spreading.{SpreadSoFar}
use Rattle.boc_end_orders.proofs.search.Search.spread.Given as goal

-- the steps at the places so far were put among the others
abbrev pub invariant-loop-place : goal.invariant-loop-place
invariant-loop-place l = record {
  so_far : SpreadSoFar l.self.stepper.program.now l.fn.self.stepper.lists l.fn.self.trail l.front l.rows (take l.place-index l.place-items)
      l.self.stepper.lists l.self.trail l.fn.next.entries l.next.entries;
  program : l.self.stepper.program.now ≡ l.fn.self.stepper.program.now;
}
