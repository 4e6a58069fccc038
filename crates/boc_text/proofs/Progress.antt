-- How far a whole input was taken, and a whole output was sent.
use Rattle.std.proofs.Common.{◌≡◌, ℕ, ◌≤◌, List, ◌++◌, length, Option}
use Rattle.std.specs.Io.KnownBytes.{Appends, Consumes}

-- a part of the input was taken
pub record HasRead (old new : Option (List ℕ)) (text : List ℕ) (limit before after : ℕ) : Type 0 where
  pub taken : Consumes old new text
  pub few : length text ≤ limit
  pub failures : after ≡ before

-- the bytes in front of the rest went out
pub record HasSent (old new : Option (List ℕ)) (bytes rest : List ℕ) (before after : ℕ) : Type 0 where
  pub done : List ℕ
  pub split : bytes ≡ done ++ rest
  pub out : Appends old new done
  pub failures : after ≡ before
