use Rattle.std.proofs.Common.{◌≡◌}
use Rattle.boc_all_ends.specs.Stepping.{ListsFit}
use Rattle.boc_end_orders.specs.Traces.{IsTracedLayer}
use Rattle.boc_end_orders.proofs.search.Search.layer_of.Given as goal

-- the fronts of so many rows
abbrev pub invariant-loop-spawned : goal.invariant-loop-spawned
invariant-loop-spawned l = record {
  layer : IsTracedLayer l.fn.self.stepper.program.now l.self.stepper.lists l.self.trail l.spawned l.layer.entries;
  fits : ListsFit l.fn.self.stepper.program.now l.self.stepper.lists;
  program : l.self.stepper.program.now ≡ l.fn.self.stepper.program.now;
}
