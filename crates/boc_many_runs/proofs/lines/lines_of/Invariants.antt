use Rattle.std.proofs.Common.{take}
use Rattle.boc_many_runs.proofs.Lining.{AreLinesFrom}
use Rattle.boc_many_runs.proofs.lines.lines_of.Given as goal

-- the lines of the places so far
abbrev pub invariant-loop-place : goal.invariant-loop-place
invariant-loop-place l = AreLinesFrom l.remedies l.columns l.runs (take l.place-index l.place-items) l.lines.items
