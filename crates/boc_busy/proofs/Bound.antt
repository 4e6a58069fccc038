-- A plan in which no worker is idle while a row that is ready waits ends within the bound.
use Rattle.std.proofs.Common.{◌≡◌, ℕ, zero, suc, ◌+◌, ◌-◌, ◌*◌, ◌/◌, ◌<◌, ◌≤◌, ◌⊎◌, List, length, refl, sym, ap, subst, inl, inr, arith, ltb}
use Rattle.std.proofs.Math.Nat.{mul-le-mul_left}
use Rattle.std.specs.Prelude.{slice_index}
use Rattle.std.proofs.lemmas.Bool.{cases_lt, cases_eq}
use Rattle.std.proofs.lemmas.Bool.Decides.{nat_tests}
use Rattle.boc_runs.specs.declared.rows.Row.{Row}
use Rattle.boc_runs.specs.Rows.{IsRows, parent_of, offset_of, ticks_of}
use Rattle.boc_plans.specs.Plans.{start_of, end_of, work_of, IsEnd, Keeps}
use Rattle.boc_plans.specs.Greedy.{worker_of, RunsAt, IsForWorkers, IsReady, IsSpan}
use Rattle.boc_busy.specs.Busy.{IsBusy}
use Rattle.boc_order.proofs.Totals.{total, total-most, total-least, total-plus, total-times, at-le-total, one_if, inside_cases, inside_yes}
use Rattle.boc_greedy.proofs.Bound.{end_within}
use Rattle.boc_greedy.proofs.Busy.{runs, busy, busy-work, work-total, on, on_yes, busy_all, busy_few}

-- twice p less one is p and p less one
split_twice : (p n : ℕ) → 0 < p → (2 * p - 1) * n ≡ p * n + (p - 1) * n
split_twice zero n h = absurd (omega (arith, h))
split_twice (suc q) n h =
    let a : 2 * suc q - 1 ≡ suc q + q = omega arith in
    let b : suc q - 1 ≡ q = omega arith in
    rw (a, b) (omega arith)

module _ (rows : List Row) (hr : IsRows rows) (p : ℕ) (some : 0 < p) (plan workers : List ℕ) (g : IsBusy rows p plan workers) where
  -- a row that starts at a tick is under way then
  runs_start : (r : ℕ) → r < length rows → RunsAt rows plan r (start_of plan r)
  runs_start r there = record { there = there; begun = omega arith; not_over = omega (arith, hr.ticks_low r there) }

  -- while a row that is ready stays, every worker has a row
  busy_while_ready : (b t : ℕ) → IsReady rows plan t b → t < start_of plan b → p ≤ busy rows plan t
  busy_while_ready b t ready later = busy_all rows plan workers t p each
    where
      none_free : (w : ℕ) → w < p → total (λ r. on rows plan workers t r w) (length rows) ≡ 0 → ⊥
      none_free w h z =
          let out : (r : ℕ) → RunsAt rows plan r t → worker_of workers r ≡ w → ⊥ = λ r k e.
          (let one : on rows plan workers t r w ≡ 1 = on_yes rows plan workers t r w k e in
          let le : on rows plan workers t r w ≤ total (λ r. on rows plan workers t r w) (length rows) =
          at-le-total (λ r. on rows plan workers t r w) (length rows) r k.there in
          omega arith) in
          g.none_idle b t w ready later (record { below = h; none = out })

      each : (w : ℕ) → w < p → 0 < total (λ r. on rows plan workers t r w) (length rows)
      each w h = elim (cases_eq (total (λ r. on rows plan workers t r w) (length rows)) 0) [
        | inl z ↦ absurd (none_free w h z)
        | inr ne ↦ omega arith
      ]

  -- with nothing under way every row would be over
  all_over : (t : ℕ) → ((r : ℕ) → RunsAt rows plan r t → ⊥) → (n r : ℕ) → r < n → r < length rows → end_of rows plan r ≤ t
  all_over t none zero r h there = absurd (omega (arith, h))
  all_over t none (suc n) r h there =
      let before : (a : ℕ) → a < r → end_of rows plan a ≤ t = λ a l. all_over t none n a (omega arith) (omega arith) in
      let over : start_of plan r < t → end_of rows plan r ≤ t = λ s. elim (cases_lt t (end_of rows plan r)) [
        | inl l ↦ absurd (none r (record { there = there; begun = omega arith; not_over = l }))
        | inr ge ↦ ge
      ] in
      elim (cases_lt (start_of plan r) t) [
        | inl s ↦ over s
        | inr ge ↦ (
            let ready : IsReady rows plan t r = record {
              there = there;
              waits = ge;
              spawned = λ a child. (
                  let l : a < r = omega (arith, hr.parent_before r child.not_main there, child.parent) in
                  let e : end_of rows plan a ≤ t = before a l in
                  let same : ticks_of rows (parent_of rows r) ≡ ticks_of rows a = ap (ticks_of rows) child.parent in
                  omega (arith, hr.ticks_cover r child.not_main there));
              in_order = λ a o. before a o.before;
            } in
            let first : (q : ℕ) → start_of plan r ≡ q → RunsAt rows plan r q = λ q e. subst (RunsAt rows plan r) e (runs_start r there) in
            elim (cases_eq (start_of plan r) t) [
              | inl e ↦ absurd (none r (first t e))
              | inr ne ↦ (
                  let full : p ≤ busy rows plan t = busy_while_ready r t ready (omega arith) in
                  let empty : busy rows plan t ≤ length rows * 0 = total-most (λ k. runs rows plan k t) 0 (length rows)
                  (λ k hk. elim (inside_cases (start_of plan k) (end_of rows plan k) t) [
                    | inl y ↦ absurd (none k (record { there = hk; begun = y.1; not_over = y.2 }))
                    | inr out ↦ omega (arith, out.0)
                  ]) in
                  absurd (omega arith))
            ])
      ]

  -- before the end some row is under way
  busy_some : (t last : ℕ) → IsEnd rows plan last → t < last → 0 < busy rows plan t
  busy_some t last end h = elim (cases_eq (busy rows plan t) 0) [
    | inl z ↦ (
        let none : (r : ℕ) → RunsAt rows plan r t → ⊥ = λ r k. (
        let one : runs rows plan r t ≡ 1 = inside_yes (start_of plan r) (end_of rows plan r) t k.begun k.not_over in
        let le : runs rows plan r t ≤ busy rows plan t = at-le-total (λ r. runs rows plan r t) (length rows) r k.there in
        omega arith) in
        let r : ℕ = end.reached.0 in
        let over : end_of rows plan r ≤ t = all_over t none (suc r) r (omega arith) end.reached.1 in
        absurd (omega (arith, end.reached.2)))
    | inr ne ↦ omega arith
  ]

  -- the plan takes no more ticks than its work
  pub end_le_work : (last : ℕ) → IsEnd rows plan last → last ≤ work_of rows
  end_le_work last end = omega (arith, total-least (busy rows plan) 1 last (λ t h. busy_some t last end h), busy-work rows plan last end)

  -- nor does the earliest plan
  pub span_le_work : (last : ℕ) → IsEnd rows plan last → (span : ℕ) → IsSpan rows span → span ≤ work_of rows
  span_le_work last end span s =
      let (r, there, at) = s.ends.reached in
      omega (arith, at, s.earliest.least plan g.keeps r there, end.none_later r there, end_le_work last end)

  -- 1 at a tick at which a worker has no row
  abbrev idle : ℕ → ℕ
  idle t = one_if (ltb (busy rows plan t) p)

  -- where no worker is idle, p rows are under way
  idle_cases : (t : ℕ) → ((idle t ≡ 0) × (p ≤ busy rows plan t)) ⊎ (idle t ≡ 1)
  idle_cases t = elim (cases_lt (busy rows plan t) p) [
    | inl l ↦ inr (grind (arith, nat_tests))
    | inr ge ↦ inl (grind (arith, nat_tests), ge)
  ]

  -- the idle ticks rise by one a tick at most
  idle_more : (s d e : ℕ) → e ≡ s + d → total idle e ≤ total idle s + d
  idle_more s zero e h = (let same : total idle e ≡ total idle s = ap (total idle) (omega arith) in omega arith)
  idle_more s (suc d) zero h = absurd (omega arith)
  idle_more s (suc d) (suc e) h =
      let ih : total idle e ≤ total idle s + d = idle_more s d e (omega arith) in
      elim (idle_cases e) [ inl z ↦ omega (arith, z.0) | inr o ↦ omega arith ]

  -- and never fall
  idle_up : (s e : ℕ) → s ≤ e → total idle s ≤ total idle e
  idle_up s zero h = (let z : s ≡ 0 = omega arith in let same : total idle s ≡ total idle 0 = ap (total idle) z in omega arith)
  idle_up s (suc e) h = elim (cases_eq s (suc e)) [
    | inl same ↦ (let q : total idle s ≡ total idle (suc e) = ap (total idle) same in omega arith)
    | inr ne ↦ (let ih : total idle s ≤ total idle e = idle_up s e (omega arith) in omega arith)
  ]

  -- until a row starts, no more ticks are idle than any keeping plan takes to start it
  module _ (other : List ℕ) (keeps : Keeps rows other) where
    -- the same for a row whose earlier rows are known
    idle-le_by : (b : ℕ) → b < length rows → ((a : ℕ) → a < b → a < length rows → total idle (start_of plan a) ≤ start_of other a) →
        (u : ℕ) → u ≤ start_of plan b → total idle u ≤ start_of other b
    idle-le_by b there ih zero h = omega arith
    idle-le_by b there ih (suc u) h = elim (cases_lt (start_of other b) (total idle (suc u))) [
      | inl above ↦ (
          let up : (x : ℕ) → u < x → total idle (suc u) ≤ total idle x = λ x l. idle_up (suc u) x (omega arith) in
          let ready : IsReady rows plan u b = record {
            there = there;
            waits = omega arith;
            spawned = λ a child. elim (cases_lt u (start_of plan a + offset_of rows b)) [
              | inl l ↦ (
                  let before : a < b = omega (arith, hr.parent_before b child.not_main there, child.parent) in
                  let q = up (start_of plan a + offset_of rows b) l in
                  let m = idle_more (start_of plan a) (offset_of rows b) (start_of plan a + offset_of rows b) refl in
                  let k = ih a before (omega arith) in
                  let s = keeps.spawned a b child in
                  absurd (omega arith))
              | inr ge ↦ ge
            ];
            in_order = λ a o. elim (cases_lt u (end_of rows plan a)) [
              | inl l ↦ (
                  let before : a < b = o.before in
                  let q = up (end_of rows plan a) l in
                  let m = idle_more (start_of plan a) (ticks_of rows a) (end_of rows plan a) refl in
                  let k = ih a before (omega arith) in
                  let s = keeps.in_order a b there o in
                  absurd (omega arith))
              | inr ge ↦ ge
            ];
          } in
          let full : p ≤ busy rows plan u = busy_while_ready b u ready (omega arith) in
          let low : total idle u ≤ start_of other b = idle-le_by b there ih u (omega arith) in
          elim (idle_cases u) [
            | inl z ↦ omega (arith, z.0)
            | inr one ↦ absurd (let zero_here : idle u ≡ 0 = grind (arith, nat_tests) in omega arith)
          ])
      | inr ge ↦ ge
    ]

    -- the same for each row
    idle-le : (n b : ℕ) → b < n → b < length rows → total idle (start_of plan b) ≤ start_of other b
    idle-le zero b h there = absurd (omega (arith, h))
    idle-le (suc n) b h there = idle-le_by b there (λ a l k. idle-le n a (omega arith) k) (start_of plan b) (omega arith)

    -- nor are more ticks idle to the end than the other plan takes
    idle-le_end : (last other_last : ℕ) → IsEnd rows plan last → IsEnd rows other other_last → total idle last ≤ other_last
    idle-le_end last other_last end other_end =
        let r : ℕ = end.reached.0 in
        let there : r < length rows = end.reached.1 in
        let at : total idle (start_of plan r) ≤ start_of other r = idle-le (suc r) r (omega arith) there in
        let more : total idle last ≤ total idle (start_of plan r) + ticks_of rows r = idle_more (start_of plan r) (ticks_of rows r) last (sym end.reached.2) in
        omega (arith, other_end.none_later r there)

  -- p workers for the length of the plan: its work, and the rest where one is idle
  ticks_split : (last : ℕ) → IsEnd rows plan last → (p' : ℕ) → p ≡ suc p' → p * last ≤ work_of rows + p' * total idle last
  ticks_split last end p' e =
      let each : last * p ≤ total (λ t. busy rows plan t + p' * idle t) last = total-least (λ t. busy rows plan t + p' * idle t) p last
      (λ t h. elim (idle_cases t) [
        | inl z ↦ omega (arith, z.1)
        | inr one ↦ (let some_row : 0 < busy rows plan t = busy_some t last end h in rw one (omega arith))
      ]) in
      let plus : total (λ t. busy rows plan t + p' * idle t) last ≡ total (busy rows plan) last + total (λ t. p' * idle t) last =
      total-plus (busy rows plan) (λ t. p' * idle t) last in
      let times : total (λ t. p' * idle t) last ≡ p' * total idle last = total-times p' idle last in
      omega (arith, busy-work rows plan last end)

  -- the end of the plan against any plan that keeps
  busy_end : (last : ℕ) → IsEnd rows plan last → (other : List ℕ) (other_last : ℕ) → Keeps rows other → IsEnd rows other other_last →
      p * last ≤ work_of rows + (p - 1) * other_last
  busy_end last end other other_last keeps other_end =
      let split : p * last ≤ work_of rows + (p - 1) * total idle last = ticks_split last end (p - 1) (omega arith) in
      let few : total idle last ≤ other_last = idle-le_end other keeps last other_last end other_end in
      let more : (p - 1) * total idle last ≤ (p - 1) * other_last = mul-le-mul_left (p - 1) few in
      omega arith

  -- and against any plan for p workers that keeps
  pub busy_twice : (last : ℕ) → IsEnd rows plan last → (other others : List ℕ) (other_last : ℕ) → Keeps rows other → IsForWorkers rows p other others →
      IsEnd rows other other_last → p * last ≤ (2 * p - 1) * other_last
  busy_twice last end other others other_last keeps for other_end =
      let first : p * last ≤ work_of rows + (p - 1) * other_last = busy_end last end other other_last keeps other_end in
      let few : total (busy rows other) other_last ≤ other_last * p = total-most (busy rows other) p other_last (λ t h. busy_few rows other others t p for) in
      let sum : (2 * p - 1) * other_last ≡ p * other_last + (p - 1) * other_last = split_twice p other_last some in
      omega (arith, busy-work rows other other_last other_end)

  -- the end of the plan against the span
  pub busy_close : (last : ℕ) → IsEnd rows plan last → (span : ℕ) → IsSpan rows span → p * last ≤ work_of rows + (p - 1) * span
  busy_close last end span s = busy_end last end s.plan span s.earliest.keeps s.ends

  -- so it ends within the bound, and not before the span
  pub busy_bound : (last : ℕ) → IsEnd rows plan last → (span : ℕ) → IsSpan rows span → last ≤ work_of rows / p + span
  busy_bound last end span s = end_within p (work_of rows) span last some (busy_close last end span s)

  pub span_first : (last : ℕ) → IsEnd rows plan last → (span : ℕ) → IsSpan rows span → span ≤ last
  span_first last end span s =
      let (r, there, at) = s.ends.reached in omega (arith, at, s.earliest.least plan g.keeps r there, end.none_later r there)

  -- p workers have no more than their time
  pub work_within : (last : ℕ) → IsEnd rows plan last → work_of rows ≤ p * last
  work_within last end =
      let few : total (busy rows plan) last ≤ last * p = total-most (busy rows plan) p last (λ t h. busy_few rows plan workers t p g.for_workers) in
      omega (arith, few, busy-work rows plan last end)

-- one worker works all the time
pub one_works : (rows : List Row) (hr : IsRows rows) (plan workers : List ℕ) (g : IsBusy rows 1 plan workers) (last : ℕ) → IsEnd rows plan last
    → last ≡ work_of rows
one_works rows hr plan workers g last end =
    omega (arith, work_within rows hr 1 (omega arith) plan workers g last end, end_le_work rows hr 1 (omega arith) plan workers g last end)
