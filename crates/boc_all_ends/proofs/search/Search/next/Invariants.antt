use Rattle.std.proofs.Common.{◌≡◌, take}
use Rattle.boc_all_ends.proofs.Searching.{LayerSoFar}
use Rattle.boc_all_ends.proofs.search.Search.next.Given as goal

abbrev pub invariant-loop-front : goal.invariant-loop-front
invariant-loop-front l = record {
  so_far : LayerSoFar l.self.stepper.program.now l.fn.self.stepper.lists l.rows (take l.front-index l.layer) l.self.stepper.lists l.next.keys;
  program : l.self.stepper.program.now ≡ l.fn.self.stepper.program.now;
  most : l.self.most ≡ l.fn.self.most;
}
