use Rattle.std.proofs.Common.{◌≡◌, ◌++◌, ◌≤◌, length, flat_map, drop}
use Rattle.std.specs.Prelude.{sum}
use Rattle.boc_table.specs.Tables.{blanks, padded_texts}
use Rattle.boc_table.specs.Storage.{texts_of}
use Rattle.boc_table.proofs.put.put_line.Given as goal

-- what is put so far and the texts that are left are all of them
abbrev pub invariant-loop-column : goal.invariant-loop-column
invariant-loop-column l = record {
  whole : sum (drop l.column l.lens) ≤ length l.bytes;
  put : l.text.items ++ flat_map (λ t. t ++ blanks 2) (padded_texts (drop l.column l.sides) (drop l.column l.widths)
      (texts_of (drop l.column l.lens) l.bytes))
      ≡ l.fn.text.items ++ flat_map (λ t. t ++ blanks 2) (padded_texts l.sides l.widths (texts_of l.lens l.fn.bytes));
  behind : drop (sum (drop l.column l.lens)) l.bytes ≡ drop (sum l.lens) l.fn.bytes;
}
