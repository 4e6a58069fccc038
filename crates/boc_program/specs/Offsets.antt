-- The offsets of wishes rise.
use Rattle.std.specs.Prelude.{ℕ, ◌<◌, ◌≤◌, List, [], ◌∷◌}
use Rattle.boc_program.specs.Meaning.{Wish}

-- the offsets rise from above `low`, and none is above `high`
abbrev pub RisesFrom : ℕ → List Wish → ℕ → Type 0
RisesFrom low [] high = low ≤ high
RisesFrom low (w ∷ ws) high = (low < w.offset) × RisesFrom w.offset ws high
