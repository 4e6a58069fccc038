-- Parts of a cost.
use Rattle.std.specs.Prelude.{ℕ}

-- a numerator and a denominator
pub record Fraction : Type 0 where
  pub over : ℕ
  pub under : ℕ
