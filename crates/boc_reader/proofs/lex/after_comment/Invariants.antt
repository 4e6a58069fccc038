use Rattle.std.proofs.Common.{◌≤◌, length}
use Rattle.boc_reader.specs.Placed.{IsEndOf}
use Rattle.boc_reader.proofs.Reading.{PassesComment}
use Rattle.boc_reader.proofs.lex.after_comment.Given as goal

abbrev pub invariant-loop-first : goal.invariant-loop-first
invariant-loop-first l = PassesComment l.text l.rest × (length l.rest ≤ length l.text) × IsEndOf l.rest l.text

abbrev pub decreases-loop-first : goal.decreases-loop-first
decreases-loop-first l = length l.rest
