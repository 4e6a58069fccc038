use Rattle.std.proofs.Common.{◌≡◌, map}
use Rattle.std.specs.Int.{from_bool}
use Rattle.std.specs.List.{range_with_len}
use Rattle.boc_plan_commands.specs.Asked.{is_of}
use Rattle.boc_plan_commands.proofs.meant.marks_of.Given as goal

-- the marks of the rows so far
abbrev pub invariant-loop-row : goal.invariant-loop-row
invariant-loop-row l = l.marks.items ≡ map (λ row. from_bool (is_of l.names l.name row)) (range_with_len 0 l.row)
