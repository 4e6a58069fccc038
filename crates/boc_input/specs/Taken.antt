-- What is taken of an input that may be a program.
use Rattle.std.specs.Prelude.{◌≡◌, ◌+◌, ◌<◌, ◌≤◌, ℕ, Bool, true, false, List, length, take, Option, Some, None, IfSome, Vec}
use Rattle.std.specs.Global.{Global}
use Rattle.std.specs.Io.KnownBytes.{Consumes, IsAtEnd, Keeps}
use Rattle.boc_program.specs.declared.limits.TheConstants.{MOST_TEXT}
use Rattle.boc_text.specs.Streams.{ReadsWhole}
use Rattle.boc_input.specs.FirstTokens.{begins_program, is_told}

-- where it is known which bytes come, their first token says whether they begin as a program does, as far as one may go
abbrev pub Begin : Bool → Option (List ℕ) → Type 0
Begin so bytes = IfSome bytes (λ all. begins_program (take (MOST_TEXT + 1) all) ≡ so)

-- some bytes were taken: as many as tell the first token, or all that come, or as many as there may be of a program
pub record ReadsFront (before after : Option (List ℕ)) (text : List ℕ) : Type 0 where
  pub taken : Consumes before after text
  pub few : length text ≤ MOST_TEXT + 1
  pub over : is_told text ≡ false → length text < MOST_TEXT + 1 → IsAtEnd after

-- a text was taken that begins as a program does, as much as there may be of one
pub record TakesText (before after : Option (List ℕ)) (text : List ℕ) : Type 0 where
  pub reads : ReadsWhole before after text (MOST_TEXT + 1)
  pub begins : begins_program text ≡ true

-- such a text was taken, or nothing was, since what comes begins otherwise
abbrev pub TakesProgram : Option (Vec ℕ Global) → Option (List ℕ) → Option (List ℕ) → Type 0
TakesProgram (Some text) before after = TakesText before after text.items
TakesProgram None before after = Keeps before after × Begin false before
