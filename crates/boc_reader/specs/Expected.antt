-- What may be where the shape of a text goes wrong first.
use Rattle.std.specs.Prelude.{◌≡◌, ℕ, List, [], ◌∷◌, length, reverse, take, drop, ◌==◌, Bool, false, is_some, Option, Some, None}
use Rattle.boc_reader.specs.Tokens.{Token, tokens_of_text}
use Rattle.boc_reader.specs.Placed.{AreTokens, token_of, tokens_of}
use Rattle.boc_reader.specs.Grammar.{NoShape}
use Rattle.boc_reader.specs.Wanted.{wanted_after}
use Rattle.boc_reader.specs.Room.{Within, goes_on, room_of_text, within_after, within_behind}
use Rattle.boc_reader.specs.WrongShape.{ShapeFaultSays}
use Rattle.boc_reader.specs.declared.wanted.Wanted.TheVariants.{Cowns}
use Rattle.boc_reader.specs.declared.fault.ShapeFault.{ShapeFault}
use Rattle.boc_reader.specs.declared.expected.Expected.{Expected}
use Rattle.boc_reader.specs.declared.token.Token.{Token as Read}

-- the tokens before that place
abbrev pub front_of : Expected → List Token
front_of e = take e.before (tokens_of e.tokens.items)

-- the tokens from that place on
abbrev pub rest_of : Expected → List Token
rest_of e = tokens_of (drop e.before e.tokens.items)

-- what is wanted after a token that stands there, and the room there
abbrev pub within_with : Expected → Token → Option Within
within_with e t = within_behind t (rest_of e) (reverse e.wanted.items) e.room

-- a token may be there: it is what is wanted, and passes no limit
abbrev pub is_allowed : Expected → Read → Bool
is_allowed e t = is_some (within_with e (token_of t))

-- a token may be there, and what is found there after it
abbrev pub is_lacked : Expected → Read → Bool
is_lacked e t = elim (within_with e (token_of t)) [ Some s ↦ goes_on (rest_of e) s | None ↦ false ]

-- the text may end there
abbrev pub may_end : Expected → Bool
may_end e = length e.wanted.items == 0

-- This is what may be where the shape of a text goes wrong first: a fault says so of the tokens of the text there; what is wanted of the rest after those
-- before it, the last first, and the room.
pub record IsExpected (e : Expected) (text : List ℕ) : Type 0 where
  pub tokens : AreTokens e.tokens.items text
  pub fault : ShapeFault
  pub says : ShapeFaultSays fault (tokens_of e.tokens.items) e.before
  pub wanted_there : wanted_after (front_of e) (Cowns ∷ []) ≡ Some (reverse e.wanted.items)
  pub within_there : within_after (front_of e) (rest_of e) (Cowns ∷ []) room_of_text
      ≡ Some (record { wanted = reverse e.wanted.items; room = e.room })

-- no shape goes wrong in the text: it has no tokens, or those of a program
abbrev pub IsRight : List ℕ → Type 0
IsRight text = (tokens : List Token) → tokens_of_text text ≡ Some tokens → NoShape tokens → ⊥
