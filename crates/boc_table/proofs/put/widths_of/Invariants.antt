use Rattle.std.proofs.Common.{◌≡◌, ℕ, ◌-◌, ◌*◌, ◌<◌, length, max}
use Rattle.std.specs.Prelude.{slice_index}
use Rattle.boc_table.specs.Storage.{stored_width}
use Rattle.boc_table.proofs.put.widths_of.Given as goal

-- what is found so far and what the lines that are left need is what all of them need
abbrev pub invariant-loop : goal.invariant-loop
invariant-loop l = record {
  columns : length l.widths.items ≡ l.columns;
  all : length l.rest ≡ (l.lines - l.counter) * l.columns;
  widest : (k : ℕ) → k < l.columns
      → max (slice_index l.widths.items k) (stored_width l.columns (l.lines - l.counter) l.rest k) ≡ stored_width l.columns l.lines l.lens k;
}
