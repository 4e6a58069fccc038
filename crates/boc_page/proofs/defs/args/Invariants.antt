use Rattle.std.proofs.Common.{◌≡◌, ℕ, length, Some, slice_get}
use Rattle.boc_names.specs.Names.{Text, texts_of}
use Rattle.boc_page.specs.Columns.{IsArgs, def_name}
use Rattle.boc_page.proofs.defs.args.Given as goal

-- the rows so far have theirs
abbrev pub invariant-loop-row : goal.invariant-loop-row
invariant-loop-row l = record {
  whole : length l.column.items ≡ l.row;
  at : (r : ℕ) (row rest : Text) → slice_get (texts_of l.names.rows.items) r ≡ Some row → slice_get (texts_of l.column.items) r ≡ Some rest
      → IsArgs (def_name l.names r) row rest;
}
