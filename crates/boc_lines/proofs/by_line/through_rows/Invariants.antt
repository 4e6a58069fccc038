use Rattle.std.proofs.Common.{◌≤◌, length}
use Rattle.boc_lines.proofs.Chaining.{IsUnderWay}
use Rattle.boc_lines.proofs.by_line.through_rows.Given as goal

abbrev pub invariant-loop-row : goal.invariant-loop-row
invariant-loop-row l = record {
  within : l.at ≤ length l.chain;
  under_way : IsUnderWay l.rows l.chain l.row l.at l.through.items;
}
