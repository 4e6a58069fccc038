-- The ticks of the rows so far.
use Rattle.std.proofs.Common.{◌≡◌, ℕ, ◌+◌, ◌-◌, ◌<◌, List, [], ◌∷◌, length, take, get_or, refl, arith}
use Rattle.std.specs.Prelude.{slice_index, slice_get, Some}
use Rattle.std.specs.List.{sum_by}
use Rattle.std.proofs.lemmas.List.Sums.{sum_by_more}
use Rattle.std.proofs.lemmas.Option.{slice_get-get_or}
use Rattle.boc_runs.specs.declared.rows.Row.{Row}
use Rattle.boc_runs.specs.Rows.{ticks_of}
use Rattle.boc_plans.specs.Plans.{HasEnds}

-- one more row adds what lies between its start and its end
pub work_more : (rows : List Row) (starts ends : List ℕ) (n total : ℕ) → HasEnds rows starts ends → n < length ends →
    total ≡ sum_by (λ (x : Row). x.ticks) (take n rows) →
    total + (slice_index ends n - slice_index starts n) ≡ sum_by (λ (x : Row). x.ticks) (take (n + 1) rows)
work_more [] starts ends n total h there e = absurd (omega (arith, h.whole, there))
work_more (x ∷ xs) starts ends n total h there e =
    let below : n < length (x ∷ xs) = omega (arith, h.whole, there) in
    let here : slice_get (x ∷ xs) n ≡ Some (get_or (x ∷ xs) n x) = slice_get-get_or (x ∷ xs) n x below in
    let ticks : ticks_of (x ∷ xs) n ≡ (get_or (x ∷ xs) n x).ticks = rw here refl in
    let more : sum_by (λ (y : Row). y.ticks) (take (n + 1) (x ∷ xs)) ≡ sum_by (λ (y : Row). y.ticks) (take n (x ∷ xs)) + (get_or (x ∷ xs) n x).ticks =
    sum_by_more (λ (y : Row). y.ticks) (x ∷ xs) n x below in
    omega (arith, e, more, ticks, h.at n below)
