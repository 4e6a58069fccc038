-- Texts that are made of lines, each a function of its index.
use Rattle.std.specs.Prelude.{ℕ, zero, suc, List, [], ◌++◌}

-- the given number of lines, from this index on
abbrev pub lines_from : (ℕ → List ℕ) → ℕ → ℕ → List ℕ
lines_from line i zero = []
lines_from line i (suc n) = line i ++ lines_from line (suc i) n
