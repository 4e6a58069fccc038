use Rattle.std.proofs.Common.{◌≡◌}
use Rattle.std.specs.Prelude.{filter}
use Rattle.std.specs.List.{range_with_len}
use Rattle.boc_notes.specs.Notes.{has_fault}
use Rattle.boc_notes.proofs.rows.faulted_rows.Given as goal

-- those of the rows so far that ended by a fault
abbrev pub invariant-loop-row : goal.invariant-loop-row
invariant-loop-row l = l.faulted.items ≡ filter (has_fault l.rows) (range_with_len 0 l.row)
