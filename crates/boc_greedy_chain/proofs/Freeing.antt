-- Which row leaves a worker to another one in a greedy plan.
use Rattle.std.proofs.Common.{◌≡◌, ◌⊎◌, ℕ, zero, suc, ◌+◌, ◌-◌, ◌<◌, ◌≤◌, List, length, refl, sym, ◌∙◌, ap, subst, inl, inr, arith}
use Rattle.std.proofs.lemmas.Bool.{cases_lt, cases_eq}
use Rattle.boc_runs.specs.declared.rows.Row.{Row}
use Rattle.boc_runs.specs.Rows.{IsRows, parent_of, offset_of}
use Rattle.boc_plans.specs.Plans.{IsChild, Keeps, start_of, end_of}
use Rattle.boc_plans.specs.Greedy.{RunsAt, IsForWorkers, IsFree, IsGreedy, IsReady, worker_of}
use Rattle.boc_greedy.proofs.Bound.{greedy_for_workers, greedy_keeps}
use Rattle.boc_greedy_chain.specs.GreedyChains.{AreAllBusy, HasItBefore, IsReadySooner, TakesOver}
use Rattle.boc_greedy_chain.specs.Turns.{StartApart}

-- a row is under way on a worker, or not
runs_or_not : (rows : List Row) (plan workers : List ℕ) (t w r : ℕ) → (RunsAt rows plan r t × (worker_of workers r ≡ w))
    ⊎ (RunsAt rows plan r t → worker_of workers r ≡ w → ⊥)
runs_or_not rows plan workers t w r = elim (cases_lt r (length rows)) [
  | inr ge ↦ inr (λ k e. omega (arith, k.there, ge))
  | inl there ↦ elim (cases_lt t (start_of plan r)) [
    | inl soon ↦ inr (λ k e. omega (arith, k.begun, soon))
    | inr begun ↦ elim (cases_lt t (end_of rows plan r)) [
      | inr over ↦ inr (λ k e. omega (arith, k.not_over, over))
      | inl not_over ↦ elim (cases_eq (worker_of workers r) w) [
        | inl on ↦ inl (record { there = there; begun = begun; not_over = not_over }, on)
        | inr other ↦ inr (λ k e. other e)
      ]
    ]
  ]
]

-- of the first n rows one is under way on the worker, or none is
busy_or_not : (rows : List Row) (plan workers : List ℕ) (t w n : ℕ) → ((r : ℕ) × RunsAt rows plan r t × (worker_of workers r ≡ w))
    ⊎ ((r : ℕ) → r < n → RunsAt rows plan r t → worker_of workers r ≡ w → ⊥)
busy_or_not rows plan workers t w zero = inr (λ r h k e. omega (arith, h))
busy_or_not rows plan workers t w (suc n) = elim (busy_or_not rows plan workers t w n) [
  | inl found ↦ inl found
  | inr none ↦ elim (runs_or_not rows plan workers t w n) [
    | inl here ↦ inl (n, here.0, here.1)
    | inr not_here ↦ inr (λ r h k e. elim (cases_eq r n) [
      | inl same ↦ not_here (subst (λ (x : ℕ). RunsAt rows plan x t) same k) (ap (worker_of workers) (sym same) ∙ e)
      | inr ne ↦ none r (omega (arith, h, ne)) k e
    ])
  ]
]

module _ (rows : List Row) (hr : IsRows rows) (p : ℕ) (plan workers : List ℕ) (g : IsGreedy rows p plan workers) where
  -- while a row that is ready waits, each worker has a row
  pub all_busy : (b t : ℕ) → IsReady rows plan t b → t < start_of plan b → AreAllBusy rows p plan workers t
  all_busy b t ready later w below = elim (busy_or_not rows plan workers t w (length rows)) [
    | inl found ↦ found
    | inr none ↦ (
        let free : IsFree rows p plan workers t w = record {
          below = below;
          idle = λ r there on sooner. elim (cases_lt t (end_of rows plan r)) [
            | inl l ↦ absurd (none r there (record { there = there; begun = omega (arith, sooner); not_over = l }) on)
            | inr ge ↦ ge
          ];
        } in
        let (r, there, start, on) = (g.at t).none_idle b w ready later free in
        (r, record { there = there; begun = omega (arith, start); not_over = omega (arith, start, hr.ticks_low r there) }, on))
  ]

  -- the worker of a row is free when it starts
  free_then : (b : ℕ) → b < length rows → IsFree rows p plan workers (start_of plan b) (worker_of workers b)
  free_then b there = (g.at (start_of plan b)).free b there refl

  some_worker : 0 < p
  some_worker = omega (arith, (free_then 0 hr.not_empty).below)

  for_workers : IsForWorkers rows p plan workers
  for_workers = greedy_for_workers rows hr p some_worker plan workers g

  pub keeps : Keeps rows plan
  keeps = greedy_keeps rows hr p some_worker plan workers g

  runs_then : (r : ℕ) → r < length rows → RunsAt rows plan r (start_of plan r)
  runs_then r there = record { there = there; begun = omega arith; not_over = omega (arith, hr.ticks_low r there) }

  -- no worker gets two rows at one tick
  pub start_apart : StartApart plan workers
  start_apart a b ha hb e same =
      let there : a < length rows = omega (arith, ha, g.whole) in
      let other : b < length rows = omega (arith, hb, g.whole) in
      for_workers.apart a b (start_of plan b) (subst (RunsAt rows plan a) e (runs_then a there)) (runs_then b other) same

  -- main starts at once
  pub main_at_once : start_of plan 0 ≡ 0
  main_at_once = elim (cases_eq (start_of plan 0) 0) [
    | inl e ↦ e
    | inr ne ↦ (
        let ready : IsReady rows plan 0 0 = record {
          there = hr.not_empty;
          waits = omega arith;
          spawned = λ a child. absurd (omega (arith, child.not_main));
          in_order = λ a o. absurd (omega (arith, o.before));
        } in
        let (r, runs, on) = all_busy 0 0 ready (omega (arith, ne)) (worker_of workers 0) (free_then 0 hr.not_empty).below in
        elim (cases_eq r 0) [
          | inl e ↦ absurd (omega (arith, runs.begun, ap (start_of plan) e, ne))
          | inr above ↦ (
              let child : IsChild rows (parent_of rows r) r = record { not_main = omega (arith, above); there = runs.there; parent = refl } in
              absurd (omega (arith, keeps.spawned (parent_of rows r) r child, hr.offset_above r child.not_main runs.there, runs.begun)))
        ])
  ]

  module _ (b : ℕ) (above : 0 < b) (there : b < length rows) where
    spawned_late : 0 < start_of plan b
    spawned_late =
        let child : IsChild rows (parent_of rows b) b = record { not_main = above; there = there; parent = refl } in
        omega (arith, keeps.spawned (parent_of rows b) b child, hr.offset_above b above there)

    -- a row that neither its spawn nor a row before it holds back takes over its worker
    pub freed_by : IsReadySooner rows plan b → (a : ℕ) × TakesOver rows plan workers a b
    freed_by sooner =
        let t : ℕ = start_of plan b - 1 in
        let ready : IsReady rows plan (start_of plan b - 1) b = record {
          there = there;
          waits = omega arith;
          spawned = λ a child. elim (cases_eq (start_of plan a + offset_of rows b) (start_of plan b)) [
            | inl e ↦ absurd (sooner.not_spawned (a, child, e))
            | inr ne ↦ omega (arith, keeps.spawned a b child, ne)
          ];
          in_order = λ a o. elim (cases_eq (end_of rows plan a) (start_of plan b)) [
            | inl e ↦ absurd (sooner.none_ends a (o, e))
            | inr ne ↦ omega (arith, keeps.in_order a b there o, ne)
          ];
        } in
        let free : IsFree rows p plan workers (start_of plan b) (worker_of workers b) = free_then b there in
        let (r, runs, on) = all_busy b (start_of plan b - 1) ready (omega (arith, spawned_late)) (worker_of workers b) free.below in
        let over : end_of rows plan r ≤ start_of plan b = free.idle r runs.there on (omega (arith, runs.begun, spawned_late)) in
        (r, record { there = runs.there; same = on; at_once = omega (arith, over, runs.not_over) })

    -- no other row leaves it that worker
    pub one_takes_over : (a c : ℕ) → TakesOver rows plan workers a b → TakesOver rows plan workers c b → a ≡ c
    one_takes_over a c ta tc =
        for_workers.apart a c (start_of plan b - 1)
        (record { there = ta.there; begun = omega (arith, ta.at_once, hr.ticks_low a ta.there); not_over = omega (arith, ta.at_once, spawned_late) })
        (record { there = tc.there; begun = omega (arith, tc.at_once, hr.ticks_low c tc.there); not_over = omega (arith, tc.at_once, spawned_late) })
        (ta.same ∙ sym tc.same)

    -- it is the one that has the worker before it
    pub before_is_taken_over : (a c : ℕ) → TakesOver rows plan workers a b → HasItBefore plan workers c b → c ≡ a
    before_is_taken_over a c ta before =
        let c_there : c < length rows = omega (arith, before.there, g.whole) in
        let a_there : a < length plan = omega (arith, ta.there, g.whole) in
        let a_sooner : start_of plan a < start_of plan b = omega (arith, ta.at_once, hr.ticks_low a ta.there) in
        elim (cases_lt (start_of plan c) (start_of plan a)) [
          | inl l ↦ absurd (before.none_between a a_there ta.same l a_sooner)
          | inr ge ↦ elim (cases_lt (start_of plan a) (start_of plan c)) [
            | inl l ↦ absurd (omega (
              arith,
              (free_then c c_there).idle a ta.there (ta.same ∙ sym before.same) l,
              ta.at_once,
              before.sooner,
            ))
            | inr ge2 ↦ start_apart c a before.there a_there (omega (arith, ge, ge2)) (before.same ∙ sym ta.same)
          ]
        ]

    -- so some row has it before it
    pub none_has_not : (a : ℕ) → TakesOver rows plan workers a b
        → ((r : ℕ) → r < length plan → worker_of workers r ≡ worker_of workers b → start_of plan r < start_of plan b → ⊥) → ⊥
    none_has_not a ta none = none a (omega (arith, ta.there, g.whole)) ta.same (omega (arith, ta.at_once, hr.ticks_low a ta.there))
