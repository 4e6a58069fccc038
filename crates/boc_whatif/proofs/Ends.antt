-- The ends of a sweep, row by row, piece by piece and stretch by stretch.
use Rattle.std.proofs.Common.{◌≡◌, ℕ, zero, suc, ◌+◌, ◌-◌, ◌*◌, ◌<◌, ◌≤◌, List, [], ◌∷◌, ◌++◌, length, subst, sym, inl, inr, arith, length-append}
use Rattle.std.specs.Prelude.{min, slice_index, Option, Some, None, IfNone}
use Rattle.std.specs.List.{AllZip, range_with_len}
use Rattle.std.specs.declared.alloc.Global.{Global}
use Rattle.std.specs.declared.vec.Vec.{Vec}
use Rattle.std.proofs.lemmas.Bool.{cases_lt}
use Rattle.std.proofs.lemmas.List.{get_or_append_left, get_or-append-add}
use Rattle.std.proofs.lemmas.Option.{get_or_from_slice_get, slice_get_within}
use Rattle.boc_runs.specs.declared.rows.Row.{Row}
use Rattle.boc_plans.specs.Sweeps.{IsLeastGreedyEnd, IsGreedySweep}
use Rattle.boc_plans.proofs.Numbered.{range_long, range_at}
use Rattle.boc_whatif.specs.declared.least_ends.TheConstants.{PIECE}
use Rattle.boc_whatif.specs.Pieces.{AreEnds, IsPiece, ArePieces}

-- the end for one row
one_at : (rows : List Row) (p row end : ℕ) → IsLeastGreedyEnd rows p row end → (place : ℕ) → place < 1
    → IsLeastGreedyEnd rows p (row + place) (slice_index (end ∷ []) place)
one_at rows p row end is zero h =
    let e : row ≡ row + 0 = omega arith in
    subst (λ (r : ℕ). IsLeastGreedyEnd rows p r end) e is
one_at rows p row end is (suc place) h = absurd (omega (arith, h))

one_end : (rows : List Row) (p row end : ℕ) → IsLeastGreedyEnd rows p row end → AreEnds rows p row (row + 1) (end ∷ [])
one_end rows p row end is = record { whole = omega arith; at = one_at rows p row end is }

-- ends, and those for the rows behind theirs
pub both : (rows : List Row) (p a b c : ℕ) (xs ys : List ℕ) → AreEnds rows p a b xs → AreEnds rows p b c ys → AreEnds rows p a c (xs ++ ys)
both rows p a b c xs ys first next = record {
  whole = omega (arith, length-append xs ys, first.whole, next.whole);
  at = λ place h. elim (cases_lt place (length xs)) [
    | inl lt ↦ subst (λ (end : ℕ). IsLeastGreedyEnd rows p (a + place) end) (sym (get_or_append_left xs ys 0 place lt)) (first.at place lt)
    | inr ge ↦ (
        let j : ℕ = place - length xs in
        let is : length xs + j ≡ place = omega (arith, ge) in
        let lt : j < length ys = omega (arith, h, length-append xs ys, ge) in
        let row : b + j ≡ a + place = omega (arith, first.whole, ge) in
        let end_is : slice_index (xs ++ ys) (length xs + j) ≡ slice_index ys j = get_or-append-add xs ys j 0 in
        subst (λ (i : ℕ). IsLeastGreedyEnd rows p (a + place) (slice_index (xs ++ ys) i)) is
        (subst (λ (end : ℕ). IsLeastGreedyEnd rows p (a + place) end) (sym end_is)
        (subst (λ (r : ℕ). IsLeastGreedyEnd rows p r (slice_index ys j)) row (next.at j lt))))
  ];
}

-- ends, and that for the row behind theirs
pub one_more : (rows : List Row) (p from row end : ℕ) (ends : List ℕ) → AreEnds rows p from row ends → IsLeastGreedyEnd rows p row end
    → AreEnds rows p from (row + 1) (ends ++ end ∷ [])
one_more rows p from row end ends are is = both rows p from row (row + 1) ends (end ∷ []) are (one_end rows p row end is)

-- what holds of each row, where nothing is found, and of the next one
pub none_more : (P : ℕ → Type 0) (found : Option ℕ) (from n : ℕ) → IfNone found ((row : ℕ) → from ≤ row → row < n → P row) → P n
    → IfNone found ((row : ℕ) → from ≤ row → row < n + 1 → P row)
none_more P (Some x) from n before here = tt
none_more P None from n before here = λ row low high. elim (cases_lt row n) [
  | inl lt ↦ before row low lt
  | inr ge ↦ (let e : n ≡ row = omega (arith, high, ge) in subst P e here)
]

-- ---- pieces

-- what was made of the numbers of the pieces are these
pub pieces_of : (rows : List Row) (p from to n : ℕ) (pieces : List (Vec ℕ Global)) → to ≤ from + n * PIECE
    → AllZip (λ (piece : ℕ) (ends : Vec ℕ Global). IsPiece rows p from to piece ends.items) (range_with_len 0 n) pieces → ArePieces rows p from to pieces
pieces_of rows p from to n pieces all z =
    let P = λ (piece : ℕ) (ends : Vec ℕ Global). IsPiece rows p from to piece ends.items in
    let long : length pieces ≡ n = range_long P 0 n pieces z in
    record {
      all = omega (arith, all, long);
      at = λ piece ends is. (
          let lt : piece < n = omega (arith, slice_get_within pieces piece ends is, long) in
          let e : 0 + piece ≡ piece = omega arith in
          subst (λ (k : ℕ). IsPiece rows p from to k ends.items) e
          (subst (λ (x : Vec ℕ Global). IsPiece rows p from to (0 + piece) x.items) (get_or_from_slice_get pieces piece ends ends is)
          (range_at P ends 0 n pieces z piece lt)));
    }

-- the ends for the first pieces of a stretch, and for the next one
pub one_piece_more : (rows : List Row) (p from to n : ℕ) (xs ys : List ℕ) → AreEnds rows p from (min to (from + n * PIECE)) xs → IsPiece rows p from to n ys
    → AreEnds rows p from (min to (from + (n + 1) * PIECE)) (xs ++ ys)
one_piece_more rows p from to n xs ys first next =
    let here : min to (from + n * PIECE) ≡ from + n * PIECE = omega (arith, next.whole) in
    let there : min to (from + n * PIECE + PIECE) ≡ min to (from + (n + 1) * PIECE) = omega arith in
    subst (λ (end : ℕ). AreEnds rows p from end (xs ++ ys)) there
    (both rows p from (from + n * PIECE) (min to (from + n * PIECE + PIECE)) xs ys (subst (λ (end : ℕ). AreEnds rows p from end xs) here first) next)

-- the ends for all rows
pub all_of : (rows : List Row) (p to : ℕ) (ends : List ℕ) → AreEnds rows p 0 to ends → to ≡ length rows → IsGreedySweep rows p ends
all_of rows p to ends are all = record {
  whole = omega (arith, are.whole, all);
  at = λ row there. (
      let e : 0 + row ≡ row = omega arith in
      subst (λ (r : ℕ). IsLeastGreedyEnd rows p r (slice_index ends row)) e (are.at row (omega (arith, there, are.whole, all))));
}
