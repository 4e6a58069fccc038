use Rattle.std.proofs.Common.{◌≡◌}
use Rattle.boc_sweep.specs.Freed.{HasPlaced}
use Rattle.boc_sweep.proofs.freed.spans_without.Given as goal

-- the rows so far are placed
abbrev pub invariant-loop-row : goal.invariant-loop-row
invariant-loop-row l = record {
  placed : HasPlaced l.rows l.row l.placing;
  own : l.placing.cowns ≡ l.fn.cowns;
}
