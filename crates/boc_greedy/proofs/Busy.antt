-- How many rows are under way at a tick.
use Rattle.std.proofs.Common.{◌≡◌, ◌≢◌, ℕ, zero, suc, ◌+◌, ◌*◌, ◌<◌, ◌≤◌, ◌⊎◌, List, [], ◌∷◌, length, take, get_or, refl, ap, inl, inr, arith, eqb}
use Rattle.std.specs.Prelude.{slice_get, Some}
use Rattle.std.specs.List.{sum_by}
use Rattle.std.proofs.lemmas.Bool.{cases_eq}
use Rattle.std.proofs.lemmas.Bool.Decides.{nat_tests}
use Rattle.std.proofs.lemmas.List.{take_all}
use Rattle.std.proofs.lemmas.List.Sums.{sum_by_more}
use Rattle.std.proofs.lemmas.Option.{slice_get-get_or}
use Rattle.boc_runs.specs.declared.rows.Row.{Row}
use Rattle.boc_runs.specs.Rows.{ticks_of}
use Rattle.boc_plans.specs.Plans.{start_of, end_of, work_of, IsEnd}
use Rattle.boc_plans.specs.Greedy.{worker_of, RunsAt, IsForWorkers}
use Rattle.boc_order.proofs.Totals.{total, total-le, total-same, total-most, total-least, total-swap, at-le-total, total-at_most_one, one_if, inside}
use Rattle.boc_order.proofs.Totals.{inside_cases, inside_yes, total-inside}

-- 1 where row r is under way at tick t
abbrev pub runs : List Row → List ℕ → ℕ → ℕ → ℕ
runs rows plan r t = inside (start_of plan r) (end_of rows plan r) t

-- how many rows are under way at tick t
abbrev pub busy : List Row → List ℕ → ℕ → ℕ
busy rows plan t = total (λ r. runs rows plan r t) (length rows)

-- the work is the sum of the ticks in number order
sum_ticks : (rows : List Row) (n : ℕ) → n ≤ length rows → (d : Row) → sum_by (λ x. x.ticks) (take n rows) ≡ total (ticks_of rows) n
sum_ticks rows zero h d = refl
sum_ticks rows (suc n) h d =
    let ih : sum_by (λ x. x.ticks) (take n rows) ≡ total (ticks_of rows) n = sum_ticks rows n (omega arith) d in
    let there : n < length rows = omega arith in
    let more : sum_by (λ x. x.ticks) (take (n + 1) rows) ≡ sum_by (λ x. x.ticks) (take n rows) + (get_or rows n d).ticks =
    sum_by_more (λ (x : Row). x.ticks) rows n d there in
    let here : slice_get rows n ≡ Some (get_or rows n d) = slice_get-get_or rows n d there in
    let ticks : ticks_of rows n ≡ (get_or rows n d).ticks = rw here refl in
    let same : sum_by (λ x. x.ticks) (take (suc n) rows) ≡ sum_by (λ x. x.ticks) (take (n + 1) rows) =
    (let k : suc n ≡ n + 1 = omega arith in ap (λ (k : ℕ). sum_by (λ (x : Row). x.ticks) (take k rows)) k) in
    omega arith

-- all rows together
pub work-total : (rows : List Row) → work_of rows ≡ total (ticks_of rows) (length rows)
work-total [] = refl
work-total (x ∷ xs) =
    let e = sum_ticks (x ∷ xs) (length (x ∷ xs)) (omega arith) x in
    rw (take_all (length (x ∷ xs)) (x ∷ xs) (omega arith)) at e

-- each row takes its ticks
pub busy-work : (rows : List Row) (plan : List ℕ) (last : ℕ) → IsEnd rows plan last → total (busy rows plan) last ≡ work_of rows
busy-work rows plan last end =
    let swap : total (λ t. total (λ r. runs rows plan r t) (length rows)) last ≡ total (λ r. total (λ t. runs rows plan r t) last) (length rows) =
    total-swap (λ t r. runs rows plan r t) last (length rows) in
    let each : total (λ r. total (λ t. runs rows plan r t) last) (length rows) ≡ total (ticks_of rows) (length rows) =
    total-same (λ r. total (λ t. runs rows plan r t) last) (ticks_of rows) (length rows)
    (λ r h. omega (arith, total-inside (start_of plan r) (end_of rows plan r) last (omega arith), end.none_later r h)) in
    omega (arith, work-total rows)

-- 1 where row r is under way at tick t on worker w
abbrev pub on : List Row → List ℕ → List ℕ → ℕ → ℕ → ℕ → ℕ
on rows plan workers t r w = runs rows plan r t * one_if (eqb (worker_of workers r) w)

-- equal numbers count
one_if_same : (x y : ℕ) → x ≡ y → one_if (eqb x y) ≡ 1
one_if_same x y h = grind (arith, nat_tests)

-- two numbers are equal or do not count
one_if_cases : (x y : ℕ) → ((one_if (eqb x y) ≡ 1) × (x ≡ y)) ⊎ ((one_if (eqb x y) ≡ 0) × (x ≢ y))
one_if_cases x y = elim (cases_eq x y) [ inl e ↦ inl (one_if_same x y e, e) | inr n ↦ inr (grind (arith, nat_tests), n) ]

module _ (rows : List Row) (plan workers : List ℕ) (t : ℕ) where
  -- a row that is under way counts on its worker
  pub on_yes : (r w : ℕ) → RunsAt rows plan r t → worker_of workers r ≡ w → on rows plan workers t r w ≡ 1
  on_yes r w h e =
      let a : runs rows plan r t ≡ 1 = inside_yes (start_of plan r) (end_of rows plan r) t h.begun h.not_over in
      let b : one_if (eqb (worker_of workers r) w) ≡ 1 = one_if_same (worker_of workers r) w e in
      rw (a, b) refl

  -- a row is under way on the worker or does not count
  pub on_cases : (r w : ℕ) → r < length rows →
      ((on rows plan workers t r w ≡ 1) × RunsAt rows plan r t × (worker_of workers r ≡ w)) ⊎ (on rows plan workers t r w ≡ 0)
  on_cases r w there = elim (inside_cases (start_of plan r) (end_of rows plan r) t) [
    | inl y ↦ elim (one_if_cases (worker_of workers r) w) [
      | inl e ↦ (let h : RunsAt rows plan r t = record { there = there; begun = y.1; not_over = y.2 } in inl (on_yes r w h e.1, h, e.1))
      | inr n ↦ inr (rw n.0 (omega arith))
    ]
    | inr out ↦ inr (rw out.0 (omega arith))
  ]

  -- a row has one worker at most
  on-le : (p r : ℕ) → r < length rows → total (λ w. on rows plan workers t r w) p ≤ runs rows plan r t
  on-le p r there = elim (inside_cases (start_of plan r) (end_of rows plan r) t) [
    | inl y ↦ (
        let one : total (λ w. on rows plan workers t r w) p ≤ 1 = total-at_most_one (λ w. on rows plan workers t r w) p
        (λ w h. elim (on_cases r w there) [ inl e ↦ omega (arith, e.0) | inr z ↦ omega arith ])
        (λ i j h k a b. elim (on_cases r i there) [
          | inl e ↦ elim (on_cases r j there) [ inl f ↦ omega (arith, e.2, f.2) | inr z ↦ absurd (omega arith) ]
          | inr z ↦ absurd (omega arith)
        ]) in
        omega (arith, y.0))
    | inr out ↦ (
        let none : total (λ w. on rows plan workers t r w) p ≤ p * 0 = total-most (λ w. on rows plan workers t r w) 0 p (λ w h. rw out.0 (omega arith)) in
        omega (arith, out.0))
  ]

  -- where each worker has a row, p rows are under way
  pub busy_all : (p : ℕ) → ((w : ℕ) → w < p → 0 < total (λ r. on rows plan workers t r w) (length rows)) → p ≤ busy rows plan t
  busy_all p each =
      let ones : p * 1 ≤ total (λ w. total (λ r. on rows plan workers t r w) (length rows)) p =
      total-least (λ w. total (λ r. on rows plan workers t r w) (length rows)) 1 p each in
      let swap : total (λ w. total (λ r. on rows plan workers t r w) (length rows)) p ≡ total (λ r. total (λ w. on rows plan workers t r w) p) (length rows) =
      total-swap (λ w r. on rows plan workers t r w) p (length rows) in
      let le : total (λ r. total (λ w. on rows plan workers t r w) p) (length rows) ≤ busy rows plan t =
      total-le (λ r. total (λ w. on rows plan workers t r w) p) (λ r. runs rows plan r t) (length rows) (λ r h. on-le p r h) in
      omega arith

  -- a plan for p workers has p rows under way at most
  pub busy_few : (p : ℕ) → IsForWorkers rows p plan workers → busy rows plan t ≤ p
  busy_few p for =
      let ge : busy rows plan t ≤ total (λ r. total (λ w. on rows plan workers t r w) p) (length rows) =
      total-le (λ r. runs rows plan r t) (λ r. total (λ w. on rows plan workers t r w) p) (length rows)
      (λ r there. elim (inside_cases (start_of plan r) (end_of rows plan r) t) [
        | inl y ↦ (
            let h : RunsAt rows plan r t = record { there = there; begun = y.1; not_over = y.2 } in
            let one : on rows plan workers t r (worker_of workers r) ≡ 1 = on_yes r (worker_of workers r) h refl in
            let at : on rows plan workers t r (worker_of workers r) ≤ total (λ w. on rows plan workers t r w) p =
            at-le-total (λ w. on rows plan workers t r w) p (worker_of workers r) (for.below r there) in
            omega (arith, y.0))
        | inr out ↦ omega (arith, out.0)
      ]) in
      let swap : total (λ w. total (λ r. on rows plan workers t r w) (length rows)) p ≡ total (λ r. total (λ w. on rows plan workers t r w) p) (length rows) =
      total-swap (λ w r. on rows plan workers t r w) p (length rows) in
      let ones : total (λ w. total (λ r. on rows plan workers t r w) (length rows)) p ≤ p * 1 =
      total-most (λ w. total (λ r. on rows plan workers t r w) (length rows)) 1 p
      (λ w h. total-at_most_one (λ r. on rows plan workers t r w) (length rows)
      (λ r there. elim (on_cases r w there) [ inl e ↦ omega (arith, e.0) | inr z ↦ omega arith ])
      (λ i j hi hj a b. elim (on_cases i w hi) [
        | inl e ↦ elim (on_cases j w hj) [ inl f ↦ for.apart i j t e.1 f.1 (omega (arith, e.2, f.2)) | inr z ↦ absurd (omega arith) ]
        | inr z ↦ absurd (omega arith)
      ])) in
      omega arith
