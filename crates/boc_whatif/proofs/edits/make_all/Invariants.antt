use Rattle.std.proofs.Common.{take}
use Rattle.boc_runs.specs.Siblings.{AreSiblings}
use Rattle.boc_sweep.specs.Lasts.{HasLasts}
use Rattle.boc_whatif.specs.Asked.{AreMade}
use Rattle.boc_whatif.proofs.edits.make_all.Given as goal

abbrev pub invariant-loop-index : goal.invariant-loop-index
invariant-loop-index l = record {
  lasts : HasLasts l.rows l.lasts;
  siblings : AreSiblings l.rows l.siblings;
  made : AreMade l.fn.rows (take l.index l.edits) l.rows l.from;
}
