-- The spans of all rows, as they are found row by row.
use Rattle.std.proofs.Common.{◌≡◌, ℕ, ◌+◌, List, length, subst, arith}
use Rattle.std.specs.Prelude.{slice_index}
use Rattle.std.specs.List.{AllZip, range_with_len}
use Rattle.boc_runs.specs.declared.rows.Row.{Row}
use Rattle.boc_plans.specs.Edits.{IsLeastSpan, IsSweep}
use Rattle.boc_sweep.specs.declared.chosen.Parts.{Parts}
use Rattle.boc_sweep.specs.Chosen.{AreParts, IsRead}
use Rattle.boc_plans.proofs.Numbered.{range_long, range_at}

-- the spans of all rows, from what is read for the numbers of the rows
pub sweep_of : (rows : List Row) (parts : Parts) → AreParts (IsLeastSpan rows) (length rows) parts → (spans : List ℕ)
    → AllZip (λ (row span : ℕ). IsRead parts row span) (range_with_len 0 (length rows)) spans → IsSweep rows spans
sweep_of rows parts are spans h = record {
  whole = range_long (λ (row span : ℕ). IsRead parts row span) 0 (length rows) spans h;
  at = λ row there. (let e : 0 + row ≡ row = omega arith in
      are.at row (slice_index spans row) there (subst (λ (x : ℕ). IsRead parts x (slice_index spans row)) e
      (range_at (λ (r span : ℕ). IsRead parts r span) 0 0 (length rows) spans h row there)));
}
