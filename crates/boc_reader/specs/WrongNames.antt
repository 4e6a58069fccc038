-- Which name of a text is the first wrong one, and where it begins.
use Rattle.std.specs.Prelude.{◌≡◌, ℕ, ◌+◌, List, [], ◌∷◌, ◌++◌, length, Option, Some, None}
use Rattle.boc_reader.specs.Tokens.{Token, name, number, keyword, sign, Piece, run, token_of_run, tokens_of_pieces, tokens_of_text}
use Rattle.boc_reader.specs.Shape.{Tree, HasShape}
use Rattle.boc_reader.specs.Names.{Named}
use Rattle.boc_reader.specs.NameUses.{Use, tree_uses}
use Rattle.boc_reader.specs.WrongTokens.{bytes_of, pieces_of}
use Rattle.boc_reader.specs.declared.fault.NameFault.{NameFault}

-- What is said of names in their order: there are so many, and all are right; or so many come before the first wrong one, which is wrong in this way.
pub data Verdict : Type 0 where
  right : ℕ → Verdict
  wrong : NameFault → ℕ → Verdict

-- the verdict on a name after n others, and on those after it
abbrev pub one_verdict : Option NameFault → ℕ → Verdict → Verdict
one_verdict None n behind = behind
one_verdict (Some fault) n behind = wrong fault n

-- the verdict on names after n others, all of which are right
abbrev pub verdict : ℕ → List Use → Verdict
verdict n [] = right n
verdict n (u ∷ us) = one_verdict u.fault n (verdict (n + 1) us)

-- the names among tokens
abbrev pub names_of_tokens : List Token → List Named
names_of_tokens [] = []
names_of_tokens (name x ∷ ts) = x ∷ names_of_tokens ts
names_of_tokens (number n ∷ ts) = names_of_tokens ts
names_of_tokens (keyword k ∷ ts) = names_of_tokens ts
names_of_tokens (sign s ∷ ts) = names_of_tokens ts

-- The name after n others of a text begins at this byte: these pieces come before it, and their tokens have so many names.
pub record IsPlaceOfName (text : List ℕ) (n at : ℕ) : Type 0 where
  pub before : List Piece
  pub tokens : List Token
  pub has_tokens : tokens_of_pieces before ≡ Some tokens
  pub count : length (names_of_tokens tokens) ≡ n
  pub found : Named
  pub is_name : token_of_run found ≡ Some (name found)
  pub behind : List Piece
  pub parts : pieces_of text ≡ before ++ run found ∷ behind
  pub place : at ≡ bytes_of before

-- The first wrong name of a text is wrong in this way, and begins at this byte.
pub record NameGoesWrong (fault : NameFault) (text : List ℕ) (at : ℕ) : Type 0 where
  pub tokens : List Token
  pub has_tokens : tokens_of_text text ≡ Some tokens
  pub tree : Tree
  pub has_shape : HasShape tokens tree
  pub before : ℕ
  pub is_wrong : verdict 0 (tree_uses tree) ≡ wrong fault before
  pub place : IsPlaceOfName text before at
