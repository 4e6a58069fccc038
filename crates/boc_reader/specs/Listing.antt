-- The defs of a text, listed with the program that it spells.
use Rattle.std.specs.Prelude.{◌≡◌, ℕ, ◌+◌, ◌<◌, List, [], ◌∷◌, length, map, take, drop, slice_index}
use Rattle.boc_reader.specs.Tokens.{Token, keyword}
use Rattle.boc_reader.specs.Shape.{Block, Def, braced_tokens, def_tokens, each_tokens}
use Rattle.boc_reader.specs.Lines.{line_after}
use Rattle.boc_reader.specs.Placed.{BeginsAt}
use Rattle.boc_reader.specs.Views.{def_of}
use Rattle.boc_reader.specs.declared.shape.DefShape.{DefShape}
use Rattle.boc_reader.specs.declared.terminal.Keyword.TheVariants.{Main}

-- a def without its block: its name, and the names of its value parameters and of its cown parameters
pub record Signature : Type 0 where
  pub name : List ℕ
  pub params : List (List ℕ)
  pub cowns : List (List ℕ)

-- what a text says of a def
abbrev pub signature_of : Def → Signature
signature_of d = record { name = d.name; params = d.params; cowns = d.cowns }

-- the tokens of main, which end a text
abbrev pub main_tokens : Block → List Token
main_tokens main = keyword Main ∷ braced_tokens main []

-- the tokens from the name of the first of these defs on, to the end of the text: what comes after its keyword
abbrev pub from_name : List Def → Block → List Token
from_name defs main = drop 1 (each_tokens def_tokens defs (main_tokens main))

-- each def has as many tokens left as there are from its name on, where these come after the defs
abbrev pub AreLeft : List DefShape → List Token → Type 0
AreLeft [] rest = Unit {0}
AreLeft (d ∷ ds) rest = (length (each_tokens def_tokens (map def_of (d ∷ ds)) rest) ≡ d.left + 1) × AreLeft ds rest

-- the line in which the name of the first of these defs begins: from there on the text has the tokens from the name on
pub record IsLineOf (text : List ℕ) (defs : List Def) (main : Block) (line : ℕ) : Type 0 where
  pub at : ℕ
  pub name : BeginsAt text at (from_name defs main)
  pub line_is : line ≡ line_after (take at text)

-- the lines in which the names of the defs begin, one after the other
abbrev pub AreLines : List ℕ → List Def → Block → List ℕ → Type 0
AreLines text defs main lines = (k : ℕ) → k < length lines → IsLineOf text (drop k defs) main (slice_index lines k)
