use Rattle.std.proofs.Common.{◌≡◌}
use Rattle.boc_all_ends.specs.Gathered.{AreNoted}
use Rattle.boc_all_ends.specs.Searching.{StandsAt}
use Rattle.boc_all_ends.specs.Stepping.{ListsFit}
use Rattle.boc_all_ends.proofs.search.Search.go_through.Given as goal

abbrev pub invariant-loop-rows : goal.invariant-loop-rows
invariant-loop-rows g l = record {
  stands : StandsAt l.fn.self.stepper.program.now l.self.stepper.lists l.rows l.layer.keys;
  fits : ListsFit l.fn.self.stepper.program.now l.self.stepper.lists;
  noted : AreNoted l.fn.self.stepper.program.now l.rows l.ends;
  program : l.self.stepper.program.now ≡ l.fn.self.stepper.program.now;
  most : l.self.most ≡ l.fn.self.most;
}
