use Rattle.std.proofs.Common.{◌≡◌, ◌≤◌, length, take, drop}
use Rattle.boc_table.specs.Tables.{without_blanks_behind}
use Rattle.boc_table.proofs.put.cut_blanks.Given as goal

abbrev pub invariant-loop-text : goal.invariant-loop-text
invariant-loop-text l = record {
  behind : l.start ≤ length l.text.items;
  front : take l.start l.text.items ≡ take l.start l.fn.text.items;
  cut : without_blanks_behind (drop l.start l.text.items) ≡ without_blanks_behind (drop l.start l.fn.text.items);
}

abbrev pub decreases-loop-text : goal.decreases-loop-text
decreases-loop-text l = length l.text.items
