-- The ends of a sweep, piece by piece.
use Rattle.std.specs.Prelude.{◌≡◌, ℕ, ◌+◌, ◌*◌, ◌<◌, ◌≤◌, min, List, length, slice_index, slice_get, Some}
use Rattle.std.specs.declared.alloc.Global.{Global}
use Rattle.std.specs.declared.vec.Vec.{Vec}
use Rattle.boc_runs.specs.declared.rows.Row.{Row}
use Rattle.boc_plans.specs.Sweeps.{IsLeastGreedyEnd}
use Rattle.boc_whatif.specs.declared.least_ends.TheConstants.{PIECE}

-- for each row from one on, up to another one, the end of the greedy plan of the rows in which that row takes the least ticks that it can
pub record AreEnds (rows : List Row) (p from to : ℕ) (ends : List ℕ) : Type 0 where
  pub whole : from + length ends ≡ to
  pub at : (place : ℕ) → place < length ends → IsLeastGreedyEnd rows p (from + place) (slice_index ends place)

-- the ends for one of the pieces of a stretch of rows: for as many rows as a piece may have, or for those that are left
abbrev pub IsPiece : List Row → ℕ → ℕ → ℕ → ℕ → List ℕ → Type 0
IsPiece rows p from to piece ends = AreEnds rows p (from + piece * PIECE) (min to (from + piece * PIECE + PIECE)) ends

-- the ends for all pieces of a stretch of rows
pub record ArePieces (rows : List Row) (p from to : ℕ) (pieces : List (Vec ℕ Global)) : Type 0 where
  pub all : to ≤ from + length pieces * PIECE
  pub at : (piece : ℕ) (ends : Vec ℕ Global) → slice_get pieces piece ≡ Some ends → IsPiece rows p from to piece ends.items
