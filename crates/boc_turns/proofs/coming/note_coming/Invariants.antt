use Rattle.boc_turns.specs.Course.{AreComing}
use Rattle.boc_turns.proofs.coming.note_coming.Given as goal

-- the cowns so far come so
abbrev pub invariant-loop-place : goal.invariant-loop-place
invariant-loop-place l = AreComing l.rows l.relaxed l.uses l.held l.wrote l.row l.place l.coming.items
