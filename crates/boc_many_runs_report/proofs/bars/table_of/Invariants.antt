use Rattle.std.proofs.Common.{◌≡◌, map, take}
use Rattle.boc_many_runs_report.specs.ManyTexts.{bin_line, bin_sides}
use Rattle.boc_many_runs_report.proofs.bars.table_of.Given as goal

-- the lines so far
abbrev pub invariant-loop-bin : goal.invariant-loop-bin
invariant-loop-bin l = record {
  sides : l.table.sides ≡ bin_sides;
  lines : l.table.lines ≡ map (bin_line l.most) (take l.bin-index l.bins);
}
