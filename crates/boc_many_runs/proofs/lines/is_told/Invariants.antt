use Rattle.std.proofs.Common.{◌≡◌, false}
use Rattle.std.specs.List.{list_any, range_with_len}
use Rattle.boc_many_runs.specs.Lines.{outdoes_in_all}
use Rattle.boc_many_runs.proofs.lines.is_told.Given as goal

-- none so far outdoes it
abbrev pub invariant-loop-other : goal.invariant-loop-other
invariant-loop-other l = list_any (outdoes_in_all l.remedies l.columns l.runs l.place) (range_with_len 0 l.other) ≡ false
