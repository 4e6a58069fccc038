use Rattle.boc_several_commands.proofs.Counting.{AreCounted}
use Rattle.boc_several_commands.proofs.compare_runs.counts_of.Given as goal

-- those so far
abbrev pub invariant-loop-place : goal.invariant-loop-place
invariant-loop-place l = AreCounted l.before l.after l.place l.less l.same
