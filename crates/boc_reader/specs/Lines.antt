-- The lines of a text.
use Rattle.std.specs.Prelude.{ℕ, ◌+◌, ◌==◌, List, count_by}

-- lines are counted from 1, and a line feed ends one
abbrev pub line_after : List ℕ → ℕ
line_after front = 1 + count_by (λ b. b == 10) front
