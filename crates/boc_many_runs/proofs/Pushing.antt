-- Columns of which the first have one more number.
use Rattle.std.proofs.Common.{◌≡◌, ℕ, zero, suc, ◌+◌, ◌<◌, ◌≤◌, ◌⊎◌, List, [], ◌∷◌, ◌++◌, length, take, arith, refl, ap, sym, inl, inr, ℤ, Some, None}
use Rattle.std.specs.Prelude.{slice_get, slice_set}
use Rattle.boc_many_runs.specs.Runs.{pushed}

pub pushed_none : (columns : List (List ℤ)) → columns ≡ pushed columns []
pushed_none [] = refl
pushed_none (c ∷ columns) = refl

pub pushed_more : (columns : List (List ℤ)) (less : List ℤ) (i : ℕ) (column : List ℤ) (own : ℤ) → i < length columns → slice_get less i ≡ Some own
    → slice_get (pushed columns (take i less)) i ≡ Some column
    → slice_set (pushed columns (take i less)) i (column ++ own ∷ []) ≡ pushed columns (take (i + 1) less)
pushed_more [] less i column own low is got = absurd (omega (arith, low))
pushed_more (c ∷ columns) [] i column own low is got = absurd (let g : None ≡ Some own = is in cc)
pushed_more (c ∷ columns) (o ∷ less) zero column own low is got =
    let e : c ≡ column = (let g : Some c ≡ Some column = got in cc) in
    let f : o ≡ own = (let g : Some o ≡ Some own = is in cc) in
    rw (sym e, sym f) (ap (λ rest. (c ++ o ∷ []) ∷ rest) (pushed_none columns))
pushed_more (c ∷ columns) (o ∷ less) (suc i) column own low is got =
    let e : suc i + 1 ≡ suc (i + 1) = omega arith in
    rw e (ap (λ rest. (c ++ o ∷ []) ∷ rest) (pushed_more columns less i column own (omega (arith, low)) is got))

-- no column is left, or no number
pub pushed_all : (columns : List (List ℤ)) (less : List ℤ) (n : ℕ) → (length columns ≤ n) ⊎ (length less ≤ n)
    → pushed columns (take n less) ≡ pushed columns less
pushed_all [] less n whole = refl
pushed_all (c ∷ columns) [] zero whole = refl
pushed_all (c ∷ columns) [] (suc n) whole = refl
pushed_all (c ∷ columns) (o ∷ less) zero (inl short) = absurd (omega (arith, short))
pushed_all (c ∷ columns) (o ∷ less) zero (inr short) = absurd (omega (arith, short))
pushed_all (c ∷ columns) (o ∷ less) (suc n) (inl whole) = ap (λ rest. (c ++ o ∷ []) ∷ rest) (pushed_all columns less n (inl (omega (arith, whole))))
pushed_all (c ∷ columns) (o ∷ less) (suc n) (inr whole) = ap (λ rest. (c ++ o ∷ []) ∷ rest) (pushed_all columns less n (inr (omega (arith, whole))))
