-- How far the tokens of a text were read, and where a text goes wrong first that has none.
use Rattle.std.specs.Prelude.{◌≡◌, ℕ, ◌+◌, ◌^◌, ◌<◌, ◌≤◌, ◌⊎◌, List, [], ◌∷◌, ◌++◌, length, true, false, Some, None}
use Rattle.boc_reader.specs.Tokens.{Token, Piece, run, pair, single, cut, without_comments, is_blank, is_numeral, value_of, token_of_run, single_sign}
use Rattle.boc_reader.specs.Tokens.{tokens_of_pieces}
use Rattle.boc_reader.specs.declared.fault.TokenFault.{TokenFault}
use Rattle.boc_reader.specs.declared.fault.TokenFault.TheVariants as faults
use Rattle.boc_reader.specs.declared.fault.Fault.{Fault}
use Rattle.boc_reader.specs.declared.fault.Fault.TheVariants.{Memory, At}

-- how many bytes a piece has
abbrev pub piece_bytes : Piece → ℕ
piece_bytes (run bs) = length bs
piece_bytes (pair b) = 2
piece_bytes (single b) = 1

-- how many bytes pieces have
abbrev pub bytes_of : List Piece → ℕ
bytes_of [] = 0
bytes_of (p ∷ ps) = piece_bytes p + bytes_of ps

-- What is wrong with a piece: it is a byte from 128 on; a number above the largest; name bytes that are neither a number nor a token; or another byte
-- that is neither a sign nor a blank.
abbrev pub IsWrongPiece : TokenFault → Piece → Type 0
IsWrongPiece faults.NotAscii (single b) = 128 ≤ b
IsWrongPiece faults.NumberTooLarge (run bs) = (is_numeral bs ≡ true) × (2 ^ 63 ≤ value_of bs)
IsWrongPiece faults.BadToken (run bs) = (token_of_run bs ≡ None) × (is_numeral bs ≡ false)
IsWrongPiece faults.BadToken (single b) = (single_sign b ≡ None) × (is_blank b ≡ false) × (b < 128)
IsWrongPiece fault p = ⊥

-- the pieces that a text is cut into
abbrev pub pieces_of : List ℕ → List Piece
pieces_of text = cut (without_comments false text)

-- Pieces that are those of the rest of a text, as far as they go right: after a comment that a byte from 128 on cuts short they may differ, but only
-- after that byte.
abbrev pub LeadOn : List Piece → List ℕ → Type 0
LeadOn left rest = (left ≡ pieces_of rest)
    ⊎ ((b : ℕ) × (bs : List ℕ) × (behind : List Piece) × (rest ≡ b ∷ bs) × (left ≡ single b ∷ behind) × (128 ≤ b))

-- a text was read up to this rest of it, and these are the tokens before that
pub record HasRead (text rest : List ℕ) (tokens : List Token) : Type 0 where
  pub before : List Piece
  pub left : List Piece
  pub parts : pieces_of text ≡ before ++ left
  pub has_tokens : tokens_of_pieces before ≡ Some tokens
  pub bytes : bytes_of before + length rest ≡ length text
  pub leads_on : LeadOn left rest

-- the first piece of a text is wrong
pub record BeginsWrong (fault : TokenFault) (text : List ℕ) : Type 0 where
  pub wrong : Piece
  pub behind : List Piece
  pub parts : pieces_of text ≡ wrong ∷ behind
  pub is_wrong : IsWrongPiece fault wrong

-- The first piece of a text that is neither a token nor a blank is wrong in this way, and begins at this byte.
pub record GoesWrong (fault : TokenFault) (text : List ℕ) (at : ℕ) : Type 0 where
  pub before : List Piece
  pub tokens : List Token
  pub has_tokens : tokens_of_pieces before ≡ Some tokens
  pub wrong : Piece
  pub behind : List Piece
  pub parts : pieces_of text ≡ before ++ wrong ∷ behind
  pub is_wrong : IsWrongPiece fault wrong
  pub place : at ≡ bytes_of before

-- a fault that was found among the tokens of a text is the first there is, and stands at one of the bytes
abbrev pub IsFirstWrong : Fault TokenFault → List ℕ → Type 0
IsFirstWrong Memory text = Unit {0}
IsFirstWrong (At fault at) text = (at < length text) × GoesWrong fault text at
