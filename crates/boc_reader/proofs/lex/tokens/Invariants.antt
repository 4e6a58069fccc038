use Rattle.std.proofs.Common.{◌≤◌, [], length}
use Rattle.boc_reader.specs.Placed.{tokens_of, AreReached, AreEnded, IsEndOf}
use Rattle.boc_reader.specs.WrongTokens.{HasRead}
use Rattle.boc_reader.proofs.Places.{StandBefore}
use Rattle.boc_reader.proofs.lex.tokens.Given as goal

abbrev pub invariant-loop-first : goal.invariant-loop-first
invariant-loop-first l =
    HasRead l.text l.rest (tokens_of l.all.items) × (length l.rest ≤ length l.text) × IsEndOf l.rest l.text × StandBefore l.text l.rest l.all.items
    × AreReached l.text [] l.all.items × AreEnded l.text [] l.all.items

abbrev pub decreases-loop-first : goal.decreases-loop-first
decreases-loop-first l = length l.rest
