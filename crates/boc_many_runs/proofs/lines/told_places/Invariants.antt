use Rattle.std.proofs.Common.{length}
use Rattle.boc_many_runs.specs.Lines.{is_told}
use Rattle.boc_many_runs.proofs.Ranges.{HavePassed}
use Rattle.boc_many_runs.proofs.lines.told_places.Given as goal

-- those of the places so far that are reported
abbrev pub invariant-loop-place : goal.invariant-loop-place
invariant-loop-place l = HavePassed (is_told l.remedies l.columns l.runs) (length l.remedies) l.place l.places.items
