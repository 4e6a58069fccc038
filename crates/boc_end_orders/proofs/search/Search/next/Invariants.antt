use Rattle.std.proofs.Common.{◌≡◌, ◌++◌}
use Rattle.boc_end_orders.proofs.Spreading.{Entries, LayerSoFar}
use Rattle.boc_end_orders.proofs.search.Search.next.Given as goal

-- the fronts before the next were spread
abbrev pub invariant-loop-front : goal.invariant-loop-front
invariant-loop-front l = record {
  so_far : (done : Entries) × (done ++ l.front-iterator ≡ l.layer.entries)
      × LayerSoFar l.self.stepper.program.now l.fn.self.stepper.lists l.fn.self.trail l.rows done l.self.stepper.lists l.self.trail l.next.entries;
  program : l.self.stepper.program.now ≡ l.fn.self.stepper.program.now;
}
