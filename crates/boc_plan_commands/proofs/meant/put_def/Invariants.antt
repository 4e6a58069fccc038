use Rattle.std.proofs.Common.{◌≡◌, ◌++◌, map}
use Rattle.std.specs.Prelude.{filter}
use Rattle.std.specs.List.{range_with_len}
use Rattle.boc_plan_commands.specs.Asked.{costs, is_of}
use Rattle.boc_plan_commands.proofs.meant.put_def.Given as goal

-- the edits of those of the rows so far that are of the def
abbrev pub invariant-loop-row : goal.invariant-loop-row
invariant-loop-row l = l.edits.items ≡ l.fn.edits.items ++ map (costs l.part) (filter (is_of l.names l.name) (range_with_len 0 l.row))
