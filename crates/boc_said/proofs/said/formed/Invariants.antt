use Rattle.std.proofs.Common.{string_bytes}
use Rattle.boc_said.specs.Lines.{IsShort}
use Rattle.boc_said.specs.declared.said.TheConstants.{MOST_WIDTH}
use Rattle.boc_said.proofs.said.formed.Given as goal

abbrev pub invariant-loop-piece : goal.invariant-loop-piece
invariant-loop-piece l =
    (goal.iterator-loop-piece).can_next l.piece-iterator × (goal.iterator-loop-piece).is_finite l.piece-iterator
    × IsShort MOST_WIDTH (string_bytes l.line)

abbrev pub invariant-loop-part : goal.invariant-loop-part
invariant-loop-part l =
    (goal.iterator-loop-part).can_next l.part-iterator × (goal.iterator-loop-part).is_finite l.part-iterator
    × IsShort MOST_WIDTH (string_bytes l.line)
