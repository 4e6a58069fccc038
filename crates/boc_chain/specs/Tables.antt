-- Tables of slots that get longer.
use Rattle.std.specs.Prelude.{◌≡◌, ℕ, ◌++◌, List, Option, None, replicate}

-- the table with vacant slots behind it
abbrev pub IsLonger : {X : Type 0} → List (Option X) → List (Option X) → Type 0
IsLonger old new = (n : ℕ) × (new ≡ old ++ replicate n None)
