-- Tokens without where they stand, where the first of them stands, and what a fault says.
use Rattle.std.specs.Prelude.{◌≡◌, ◌≢◌, ℕ, ◌-◌, List, [], ◌∷◌, ◌++◌, map, length, drop, false, Some}
use Rattle.std.specs.Str.{byte}
use Rattle.boc_reader.specs.Tokens as the
use Rattle.boc_reader.specs.Tokens.{is_blank, tokens_of_text}
use Rattle.boc_reader.specs.WrongTokens.{HasRead}
use Rattle.boc_reader.specs.declared.token.Token.{Token}
use Rattle.boc_reader.specs.declared.token.Token.TheVariants as tokens
use Rattle.boc_reader.specs.declared.token.Placed.{Placed}
use Rattle.boc_program.specs.declared.limits.TheConstants.{MOST_TEXT}
use Rattle.boc_reader.specs.declared.fault.Fault.{Fault}
use Rattle.boc_reader.specs.declared.fault.Fault.TheVariants as faults

-- a token without where its name lies
abbrev pub token_of : Token → the.Token
token_of (tokens.Name x) = the.name x.now
token_of (tokens.Number n) = the.number n.value
token_of (tokens.Keyword k) = the.keyword k
token_of (tokens.Sign s) = the.sign s

-- tokens without where they stand
abbrev pub tokens_of : List Placed → List the.Token
tokens_of ps = map (λ p. token_of p.token) ps

-- the byte at which the first of these tokens begins; where there is none, a byte after every text
abbrev pub position_of : List Placed → ℕ
position_of [] = MOST_TEXT
position_of (p ∷ ps) = p.at

-- a fault that says something of the text holds of it
abbrev pub Refusal : {K : Type 0} → Fault K → Type 0 → Type 0
Refusal faults.Memory P = Unit {0}
Refusal (faults.At kind at) P = P

-- bytes that are the end of a text
abbrev pub IsEndOf : List ℕ → List ℕ → Type 0
IsEndOf bytes text = bytes ≡ drop (length text - length bytes) text

-- a token begins there: neither a blank nor a comment
abbrev pub BeginsToken : List ℕ → Type 0
BeginsToken [] = ⊥
BeginsToken (b ∷ bs) = (is_blank b ≡ false) × (b ≢ byte "#")

-- the first of these tokens begins at this byte of a text, and from there on the text has these tokens
pub record BeginsAt (text : List ℕ) (at : ℕ) (tokens : List the.Token) : Type 0 where
  pub begins : BeginsToken (drop at text)
  pub has_tokens : tokens_of_text (drop at text) ≡ Some tokens

-- each of these tokens begins at its place, with those after it
abbrev pub ArePlaced : List ℕ → List Placed → Type 0
ArePlaced text [] = Unit {0}
ArePlaced text (p ∷ ps) = BeginsAt text p.at (tokens_of (p ∷ ps)) × ArePlaced text ps

-- up to the place of each of these tokens the text was read, as those before it
abbrev pub AreReached : List ℕ → List the.Token → List Placed → Type 0
AreReached text before [] = Unit {0}
AreReached text before (p ∷ ps) = HasRead text (drop p.at text) before × AreReached text (before ++ token_of p.token ∷ []) ps

-- up to the end of each of these tokens the text was read, as those before it and this one
abbrev pub AreEnded : List ℕ → List the.Token → List Placed → Type 0
AreEnded text before [] = Unit {0}
AreEnded text before (p ∷ ps) = HasRead text (drop p.end text) (before ++ token_of p.token ∷ []) × AreEnded text (before ++ token_of p.token ∷ []) ps

-- these are the tokens of a text, each between its places
pub record AreTokens (ps : List Placed) (text : List ℕ) : Type 0 where
  pub has_tokens : tokens_of_text text ≡ Some (tokens_of ps)
  pub placed : ArePlaced text ps
  pub reached : AreReached text [] ps
  pub ended : AreEnded text [] ps
