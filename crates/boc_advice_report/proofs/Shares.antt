-- The work that each worker has, and for how much of the time the workers are busy.
use Rattle.std.proofs.Common.{◌≡◌, ℕ, zero, suc, ◌+◌, ◌-◌, ◌*◌, ◌/◌, ◌==◌, ◌<◌, ◌≤◌, false, cond, List, inl, inr, arith}
use Rattle.std.specs.Int.{div_ceil}
use Rattle.std.proofs.Math.Nat.{mul-le-mul_left}
use Rattle.std.proofs.lemmas.Bool.{cases_lt}
use Rattle.std.proofs.lemmas.Bool.Decides.{nat_tests}
use Rattle.std.proofs.lemmas.Grind.{div_ceil_times}
use Rattle.boc_runs.specs.declared.rows.Row.{Row}
use Rattle.boc_runs.specs.Rows.{IsRows}
use Rattle.boc_plans.specs.Plans.{IsEnd, Keeps, work_of}
use Rattle.boc_plans.specs.Greedy.{IsForWorkers, IsSpan}
use Rattle.boc_plans.specs.Sweeps.{IsGreedyEnd}
use Rattle.boc_order.proofs.Totals.{total-most}
use Rattle.boc_greedy.proofs.Busy.{busy, busy-work, busy_few}
use Rattle.boc_greedy.proofs.Bound.{greedy_for_workers}
use Rattle.boc_advice_report.specs.declared.workers.ForWorkers.{ForWorkers}
use Rattle.boc_advice_report.specs.WorkersTexts.{busy_of, least_of, share_of}

-- p workers have no more than their time
work_within : (rows : List Row) (p last : ℕ) (plan workers : List ℕ) → IsForWorkers rows p plan workers → IsEnd rows plan last → work_of rows ≤ last * p
work_within rows p last plan workers for end =
    omega (arith, total-most (busy rows plan) p last (λ t h. busy_few rows plan workers t p for), busy-work rows plan last end)

-- what is so many times p at most is so many, or less, when it is divided and rounded up
ceil_low : (p work last : ℕ) → 0 < p → work ≤ last * p → div_ceil work p ≤ last
ceil_low zero work last some le = absurd (omega (arith, some))
ceil_low (suc q) work last some le = elim (cases_lt last (div_ceil work (suc q))) [
  | inl above ↦ (
      let most = (div_ceil_times work (suc q) some).1 in
      let more : suc q * (last + 1) ≤ suc q * div_ceil work (suc q) = mul-le-mul_left (suc q) (omega (arith, above)) in
      absurd (omega (arith, most, more, le)))
  | inr ge ↦ ge
]

positive : (q : ℕ) → (suc q == 0) ≡ false
positive q = grind (arith, nat_tests)

share_low : (p work last : ℕ) → 0 < p → work ≤ last * p → cond (p == 0) 0 (div_ceil work p) ≤ last
share_low zero work last some le = absurd (omega (arith, some))
share_low (suc q) work last some le = rw (positive q) (ceil_low (suc q) work last some le)

-- what is no more than a time is no more than the whole of it, in percent
full_at_most : (work time : ℕ) → work ≤ time → cond (time == 0) 0 (work * 100 / time) ≤ 100
full_at_most work zero le = omega arith
full_at_most work (suc k) le = rw (positive k) (elim (cases_lt 100 (work * 100 / suc k)) [
  | inl above ↦ (
      let more : suc k * 101 ≤ suc k * (work * 100 / suc k) = mul-le-mul_left (suc k) (omega (arith, above)) in
      let whole : suc k * (work * 100 / suc k) ≤ work * 100 = omega arith in
      absurd (omega (arith, more, whole, le)))
  | inr ge ↦ ge
])

-- no plan for the workers that keeps ends before the least tick that is told
pub none_before : (rows : List Row) (own : ForWorkers) (plan workers : List ℕ) (last : ℕ) → 0 < own.p → own.work ≡ work_of rows → IsSpan rows own.span
    → Keeps rows plan → IsForWorkers rows own.p plan workers → IsEnd rows plan last → least_of own ≤ last
none_before rows own plan workers last some work span keeps for end =
    let (r, there, at) = span.ends.reached in
    let after : own.span ≤ last = omega (arith, at, span.earliest.least plan keeps r there, end.none_later r there) in
    let within : own.work ≤ last * own.p = omega (arith, work, work_within rows own.p last plan workers for end) in
    let share : share_of own ≤ last = share_low own.p own.work last some within in
    omega (arith, after, share)

-- the workers are busy for the whole of the time of a greedy plan at most
pub busy_at_most : (rows : List Row) (own : ForWorkers) → IsRows rows → 0 < own.p → own.work ≡ work_of rows → IsGreedyEnd rows own.p own.end
    → busy_of own ≤ 100
busy_at_most rows own hr some work g =
    let for : IsForWorkers rows own.p g.plan g.workers = greedy_for_workers rows hr own.p some g.plan g.workers g.greedy in
    let within : own.work ≤ own.p * own.end = omega (arith, work, work_within rows own.p own.end g.plan g.workers for g.ends) in
    full_at_most own.work (own.p * own.end) within
