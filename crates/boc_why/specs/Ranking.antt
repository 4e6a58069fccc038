-- Spans in their order: the least first, and of equal ones the first.
use Rattle.std.specs.Prelude.{◌≡◌, ◌<◌, ◌⊎◌, ℕ, List, length, map, Some, slice_get, slice_index}
use Rattle.boc_why.specs.declared.ranking.Placed.{Placed}

-- the span at place i is less than that at place j, or as great, and i comes first
abbrev pub RanksBefore : List ℕ → ℕ → ℕ → Type 0
RanksBefore spans i j = (slice_index spans i < slice_index spans j) ⊎ ((slice_index spans i ≡ slice_index spans j) × (i < j))

-- the places of all spans, the least span first, and of equal ones the first
pub record IsRanking (spans places : List ℕ) : Type 0 where
  pub whole : length places ≡ length spans
  pub below : (i : ℕ) → i < length places → slice_index places i < length spans
  pub sorted : (i j : ℕ) → i < j → j < length places → RanksBefore spans (slice_index places i) (slice_index places j)

-- all spans with their places
pub record ArePlaced (spans : List ℕ) (placed : List Placed) : Type 0 where
  pub whole : length placed ≡ length spans
  pub at : (k : ℕ) (p : Placed) → slice_get placed k ≡ Some p → (p.place ≡ k) × (slice_get spans k ≡ Some p.span)

-- all spans with their places, the least span first, and of equal ones the first
pub record AreRanked (spans : List ℕ) (placed : List Placed) : Type 0 where
  pub ranking : IsRanking spans (map (λ p. p.place) placed)
  pub each : (i : ℕ) (p : Placed) → slice_get placed i ≡ Some p → p.span ≡ slice_index spans p.place
