use Rattle.std.proofs.Common.{◌≡◌, false, length}
use Rattle.boc_input.specs.FirstTokens.{from_token}
use Rattle.boc_input.proofs.first_token.from_token.Given as goal

-- the text from its first token on is that of what is left
abbrev pub invariant-loop-first : goal.invariant-loop-first
invariant-loop-first l = from_token l.is_inside l.rest ≡ from_token false l.text

abbrev pub decreases-loop-first : goal.decreases-loop-first
decreases-loop-first l = length l.rest
