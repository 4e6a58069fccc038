use Rattle.std.proofs.Common.{◌≡◌}
use Rattle.boc_turns.specs.Ticks.{AreTicks}
use Rattle.boc_turns.specs.Turns.{cowns_before}
use Rattle.boc_turns.proofs.ticks.ticks_used.Given as goal

-- the rows so far are counted
abbrev pub invariant-loop-row : goal.invariant-loop-row
invariant-loop-row l = record {
  passed : l.passed ≡ cowns_before l.rows l.row;
  ticks : AreTicks l.rows l.uses l.row l.totals.items;
}
