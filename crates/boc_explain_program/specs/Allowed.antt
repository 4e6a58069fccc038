-- Which tokens are allowed where the shape of a text goes wrong.
use Rattle.std.specs.Prelude.{◌≡◌, List, [], ◌∷◌, ◌++◌, map, Bool, ◌&&◌, not, filter, codes}
use Rattle.boc_reader.specs.Placed.{token_of}
use Rattle.boc_reader.specs.Tokens.{Token, name, number, keyword, sign}
use Rattle.boc_reader.specs.declared.terminal.Keyword.TheVariants as keywords
use Rattle.boc_reader.specs.declared.terminal.Sign.TheVariants as signs
use Rattle.boc_reader.specs.Expected.{is_allowed, is_lacked}
use Rattle.boc_reader.specs.declared.expected.Expected.{Expected}
use Rattle.boc_explain_program.specs.declared.allowed.Candidate.{Candidate}

-- what is found there may come after this token
abbrev pub is_first : Expected → Candidate → Bool
is_first e c = is_lacked e c.0

-- this token is allowed there, and what is found there not after it
abbrev pub is_other : Expected → Candidate → Bool
is_other e c = is_allowed e c.0 && not (is_lacked e c.0)

-- those of these tokens that are allowed there, in their order, but first those after which what is found there may be
unfoldable pub allowed_of : Expected → List Candidate → List Candidate
allowed_of e cs = filter (is_first e) cs ++ filter (is_other e) cs

-- each token that there is, in the order in which they are reported, with one name for all names and one number for all numbers
abbrev pub every_token : List Token
every_token =
    sign signs.Semicolon ∷ sign signs.Close ∷ sign signs.CloseBlock ∷ sign signs.OpenBlock ∷ sign signs.Open ∷ sign signs.CloseIndex ∷ sign signs.Comma
    ∷ sign signs.Assign ∷ name (codes "x") ∷ number 1 ∷ sign signs.OpenIndex ∷ keyword keywords.Cown ∷ keyword keywords.Def ∷ keyword keywords.Main
    ∷ keyword keywords.Let ∷ keyword keywords.When ∷ keyword keywords.Work ∷ keyword keywords.If ∷ keyword keywords.Repeat ∷ keyword keywords.Else
    ∷ sign signs.Plus ∷ sign signs.Minus ∷ sign signs.Star ∷ sign signs.Slash ∷ sign signs.Percent ∷ sign signs.Equal ∷ sign signs.NotEqual
    ∷ sign signs.Less ∷ sign signs.AtMost ∷ sign signs.Greater ∷ sign signs.AtLeast ∷ []

-- these are all tokens that are allowed there, of all that there are
pub record AreAllowed (allowed : List Candidate) (e : Expected) : Type 0 where
  pub candidates : List Candidate
  pub every : map (λ c. token_of c.0) candidates ≡ every_token
  pub are : allowed ≡ allowed_of e candidates
