use Rattle.std.proofs.Common.{◌≡◌, ◌++◌, ◌-◌, length, flat_map}
use Rattle.boc_table.specs.Tables.{line_text}
use Rattle.boc_table.specs.Storage.{AreStored, lines_of}
use Rattle.boc_table.proofs.put.put_lines.Given as goal

-- what is put so far and the lines that are left are all of them
abbrev pub invariant-loop : goal.invariant-loop
invariant-loop l = record {
  stored : AreStored (l.count - l.counter) (length l.sides) l.lens l.bytes;
  put : l.text.items ++ flat_map (line_text l.sides l.widths) (lines_of (l.count - l.counter) (length l.sides) l.lens l.bytes)
      ≡ l.fn.text.items ++ flat_map (line_text l.sides l.widths) (lines_of l.count (length l.sides) l.fn.lens l.fn.bytes);
}
