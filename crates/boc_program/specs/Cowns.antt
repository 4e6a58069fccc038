-- The cowns of a row, and those of them that it wrote.
use Rattle.std.specs.Prelude.{◌<◌, ◌==◌, ℕ, List, All, filter, not}
use Rattle.std.specs.List.{Contains}
use Rattle.std.specs.List.Sorted.{IsStrictlyIncreasing}
use Rattle.arrayvec.specs.ArrayVec.{ArrayVec}

-- cowns rise strictly, and are below a number of cowns
pub record AreCowns (count : ℕ) (cowns : List ℕ) : Type 0 where
  pub rise : IsStrictlyIncreasing cowns
  pub below : All (λ c. c < count) cowns

-- some cowns rise strictly, and each is one of these
pub record AreAmong (cowns some : List ℕ) : Type 0 where
  pub rise : IsStrictlyIncreasing some
  pub own : All (λ c. Contains cowns c) some

-- the cowns but for one
abbrev pub others : ℕ → List ℕ → List ℕ
others cown cowns = filter (λ c. not (c == cown)) cowns

-- the same, as a row has them
abbrev pub freed : ℕ → ArrayVec ℕ → ArrayVec ℕ
freed cown cowns = record { items = others cown cowns.items }
