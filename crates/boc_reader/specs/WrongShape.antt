-- Where the shape of the tokens of a text goes wrong first: they are those of no tree, whatever its numbers, or they pass a limit.
use Rattle.std.specs.Prelude.{◌≡◌, ◌≢◌, ℕ, ◌+◌, ◌<◌, ◌≤◌, List, [], ◌∷◌, ◌++◌, length, reverse, take, drop, Some, None}
use Rattle.boc_reader.specs.Tokens.{Token, Piece, tokens_of_pieces, tokens_of_text}
use Rattle.boc_reader.specs.Shape.{Tree, tree_tokens, HaveMembers, HasShape}
use Rattle.boc_reader.specs.Placed.{BeginsAt}
use Rattle.boc_reader.specs.WrongTokens.{bytes_of, pieces_of}
use Rattle.boc_reader.specs.Wanted.{wanted_after, wanted_behind}
use Rattle.boc_reader.specs.Room.{room_of_text, within_behind, within_after}
use Rattle.boc_reader.specs.declared.room.Room.{Room}
use Rattle.boc_reader.specs.declared.wanted.Wanted.{Wanted}
use Rattle.boc_reader.specs.declared.wanted.Wanted.TheVariants.{Cowns}
use Rattle.boc_reader.specs.declared.fault.ShapeFault.{ShapeFault}
use Rattle.boc_reader.specs.declared.stray.Reading.{Reading}
use Rattle.boc_reader.specs.declared.stray.Stray.{Stray}
use Rattle.boc_reader.specs.declared.fault.ShapeFault.TheVariants as faults

-- the tokens are all those of a tree whose arrays have members, be there as many nodes, cowns, defs and others as there may
pub record AreWhole (tokens : List Token) : Type 0 where
  pub tree : Tree
  pub arrays : HaveMembers tree.cowns
  pub tokens_are : tokens ≡ tree_tokens tree

-- such a tree begins with these tokens: with some after them they are all of its tokens
pub record BeginTree (tokens : List Token) : Type 0 where
  pub more : List Token
  pub whole : AreWhole (tokens ++ more)

-- The shape of these tokens goes wrong first after so many of them: a tree begins with these, and none with the next one too; or there is no next one,
-- and the tokens aren't all those of a tree.
pub record ShapeGoesWrong (tokens : List Token) (before : ℕ) : Type 0 where
  pub within : before ≤ length tokens
  pub begins : BeginTree (take before tokens)
  pub strays : before < length tokens → BeginTree (take (before + 1) tokens) → ⊥
  pub ends : before ≡ length tokens → AreWhole tokens → ⊥

-- So many of these tokens pass no limit: each is what is wanted where it stands, and there is space for what it counts.
abbrev pub PassNoLimit : List Token → ℕ → Type 0
PassNoLimit tokens before = within_after (take before tokens) (drop before tokens) (Cowns ∷ []) room_of_text ≢ None

-- The token after so many of these is the first with which a limit is passed: those before it pass none, and with it one is passed. A tree begins with
-- these tokens and that one, but none within the limits.
pub record PassesLimit (tokens : List Token) (before : ℕ) : Type 0 where
  pub within : before < length tokens
  pub first : PassNoLimit tokens before
  pub passes : PassNoLimit tokens (before + 1) → ⊥
  pub begins : BeginTree (take (before + 1) tokens)
  pub none : (t : Tree) (more : List Token) → HasShape (take (before + 1) tokens ++ more) t → ⊥

-- What a fault of the shape says of the tokens, where so many of them come before it: that their shape goes wrong first there, and those before it pass no
-- limit; or that the token there is the first with which a limit is passed.
abbrev pub ShapeFaultSays : ShapeFault → List Token → ℕ → Type 0
ShapeFaultSays faults.Unexpected tokens before = ShapeGoesWrong tokens before × PassNoLimit tokens before
ShapeFaultSays faults.TooMany tokens before = PassesLimit tokens before

-- The token after these of a text begins at this byte: the pieces before it are these tokens and blanks, and the piece there is that token.
pub record IsPlaceOfToken (text : List ℕ) (at : ℕ) (passed : List Token) (token : Token) : Type 0 where
  pub before : List Piece
  pub has_tokens : tokens_of_pieces before ≡ Some passed
  pub found : Piece
  pub is_token : tokens_of_pieces (found ∷ []) ≡ Some (token ∷ [])
  pub behind : List Piece
  pub parts : pieces_of text ≡ before ++ found ∷ behind
  pub place : at ≡ bytes_of before

-- The place after so many tokens of a text, of the tokens that are left: the byte at which the first of these begins, from which on the text has them;
-- or the end of the text where none is left.
abbrev pub StandAt : List ℕ → ℕ → List Token → List Token → Type 0
StandAt text at passed [] = at ≡ length text
StandAt text at passed (t ∷ ts) = IsPlaceOfToken text at passed t × BeginsAt text at (t ∷ ts)

-- the text has tokens, and the fault of their shape stands at this place
pub record ShapeFaultStandsAt (fault : ShapeFault) (text : List ℕ) (at : ℕ) : Type 0 where
  pub tokens : List Token
  pub has_tokens : tokens_of_text text ≡ Some tokens
  pub before : ℕ
  pub says : ShapeFaultSays fault tokens before
  pub place : StandAt text at (take before tokens) (drop before tokens)

-- What is wrong with a token before these tokens, where all this is wanted and there is this room: it can't be there; or it can, and passes a limit.
abbrev pub IsWrongThere : ShapeFault → Token → List Token → List Wanted → Room → Type 0
IsWrongThere faults.Unexpected t after ws r = wanted_behind t ws ≡ None
IsWrongThere faults.TooMany t after ws r = (wanted_behind t ws ≢ None) × (within_behind t after ws r ≡ None)

-- How a token is read before these tokens, where all this is wanted, the last first, and there is this room: what it leaves of that and what is wanted in
-- front of it are what is wanted after the token, and this is the room there.
abbrev pub IsReading : Reading → Token → List Token → List Wanted → Room → Type 0
IsReading s t after items r = (s.kept ≤ length items) × (wanted_behind t (reverse items) ≡ Some (s.then.now ++ reverse (take s.kept items)))
    × (within_behind t after (reverse items) r ≡ Some (record { wanted = s.then.now ++ reverse (take s.kept items); room = s.room }))

-- Where tokens go wrong first: the fault says so of them, and after those before it this is wanted, the last first, and there is this room.
pub record IsStray (s : Stray) (tokens : List Token) : Type 0 where
  pub says : ShapeFaultSays s.fault tokens s.before
  pub wanted_there : wanted_after (take s.before tokens) (Cowns ∷ []) ≡ Some (reverse s.wanted.items)
  pub within_there : within_after (take s.before tokens) (drop s.before tokens) (Cowns ∷ []) room_of_text
      ≡ Some (record { wanted = reverse s.wanted.items; room = s.room })
