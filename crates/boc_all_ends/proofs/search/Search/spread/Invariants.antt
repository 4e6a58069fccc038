use Rattle.std.proofs.Common.{◌≡◌, take}
use Rattle.boc_all_ends.proofs.Searching.{SpreadSoFar}
use Rattle.boc_all_ends.proofs.search.Search.spread.Given as goal

abbrev pub invariant-loop-place : goal.invariant-loop-place
invariant-loop-place l = record {
  so_far : SpreadSoFar l.self.stepper.program.now l.fn.self.stepper.lists l.front l.rows (take l.place-index l.place-items) l.self.stepper.lists
      l.fn.next.keys l.next.keys;
  program : l.self.stepper.program.now ≡ l.fn.self.stepper.program.now;
  most : l.self.most ≡ l.fn.self.most;
}
