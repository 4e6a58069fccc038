use Rattle.std.proofs.Common.{◌≤◌, ◌<◌, ◌^◌, take}
use Rattle.std.specs.Prelude.{All}
use Rattle.boc_lines.proofs.by_line.end_of.Given as goal

abbrev pub invariant-loop-line : goal.invariant-loop-line
invariant-loop-line l = record {
  few : l.end ≤ 2 ^ 32;
  below : All (λ line. line < l.end) (take l.line-index l.lines);
}
