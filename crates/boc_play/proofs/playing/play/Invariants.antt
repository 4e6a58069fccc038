use Rattle.boc_play.specs.Waiting.{tables}
use Rattle.boc_play.proofs.WholeRuns.{PlayedSo}
use Rattle.boc_play.proofs.playing.play.Given as goal

-- so many rows of the order were spawned
abbrev pub invariant-loop-parent : goal.invariant-loop-parent
invariant-loop-parent l = PlayedSo l.program l.parents l.parent-index l.run (tables l.rows)
