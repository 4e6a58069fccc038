use Rattle.std.proofs.Common.{◌≡◌, ◌++◌, take}
use Rattle.boc_names.specs.Names.{texts_of}
use Rattle.boc_compare_report.specs.PairTexts.{pair_lines}
use Rattle.boc_compare_report.proofs.pairs.put_all.Given as goal

-- the lines of the pairs so far
abbrev pub invariant-loop-pair : goal.invariant-loop-pair
invariant-loop-pair l = record {
  sides : l.table.sides ≡ l.fn.table.sides;
  lines : l.table.lines ≡ l.fn.table.lines ++ pair_lines (texts_of l.before) (texts_of l.after) (take l.pair-index l.pairs);
}
