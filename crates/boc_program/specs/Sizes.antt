-- How many cowns a declaration makes.
use Rattle.std.specs.Prelude.{ℕ, Option, Some, None}

-- one, or as many as the array has members
abbrev pub members : Option ℕ → ℕ
members None = 1
members (Some n) = n
