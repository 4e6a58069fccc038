-- Greedy plans under way: going on to a later tick, one more start, and the last one.
use Rattle.std.proofs.Common.{◌≡◌, ◌≢◌, ◌⊎◌, inl, inr, ℕ, ◌+◌, ◌<◌, ◌≤◌, List, length, Option, refl, subst, sym, ap, ◌∙◌, arith}
use Rattle.std.specs.Prelude.{slice_index}
use Rattle.std.proofs.lemmas.Bool.{cases_lt, cases_eq}
use Rattle.boc_runs.specs.declared.rows.Row.{Row}
use Rattle.boc_runs.specs.Rows.{IsRows, parent_of, offset_of, ticks_of}
use Rattle.boc_plans.specs.Plans.{start_of, end_of}
use Rattle.boc_plans.specs.Greedy.{worker_of, IsFree, IsTaken}
use Rattle.boc_greedy.specs.Simulating.{later}
use Rattle.boc_greedy.proofs.Puts.{Puts}
use Rattle.boc_uses.specs.declared.uses.Use.{Use}
use Rattle.boc_used_greedy.specs.Ready.{came, IsReadyBy, so_far, CanStartAt, IsGreedyBy}
use Rattle.boc_used_greedy.specs.Plans.{NotStarted, HasStarted, IsGreedySoFar, AreFreeFrom, IsNext}
use Rattle.boc_used_greedy.proofs.Leaving.{came_no_later}
use Rattle.boc_used_greedy.proofs.Cutting.{cut_early, cut_late, cut_no_sooner, cut_falls}

-- a row that can start can do so where no row before it starts later
pub ready_falls : (rows : List Row) → IsRows rows → (holds : List (Option Use)) (plan other : List ℕ) (t r : ℕ) → r < length rows
    → ((a : ℕ) → a < r → start_of other a ≤ start_of plan a) → IsReadyBy rows holds plan t r → IsReadyBy rows holds other t r
ready_falls rows hr holds plan other t r there le i = record {
  spawned = λ above. (let h = hr.parent_before r above there in omega (arith, i.spawned above, le (parent_of rows r) h));
  in_turn = λ c u e need. (let l = came_no_later rows holds c other plan r (λ a v lt f. le a lt) in omega (arith, i.in_turn c u e need, l));
}

module _ (rows : List Row) (hr : IsRows rows) (holds : List (Option Use)) (p : ℕ) (plan workers : List ℕ) (tick : ℕ)
    (g : IsGreedySoFar rows holds p plan workers tick) where
  -- a row has started, or it hasn't
  pub started_or_not : (r : ℕ) → r < length rows → HasStarted rows plan r ⊎ NotStarted rows plan r
  started_or_not r there = elim (cases_lt (start_of plan r) later) [
    | inl lt ↦ inl (there, lt)
    | inr ge ↦ inr (there, omega (arith, ge, g.most r there))
  ]

  in_plan : (r : ℕ) → r < length rows → r < length plan
  in_plan r there = omega (arith, there, g.whole)

  -- from the tick of the plan on all starts are seen
  pub all_seen : (t r : ℕ) → tick ≤ t → t < later → r < length rows → start_of (so_far t plan) r ≡ start_of plan r
  all_seen t r le before there = elim (started_or_not r there) [
    | inl s ↦ cut_early t plan r (in_plan r there) (omega (arith, g.come r s, le))
    | inr n ↦ omega (arith, cut_late t plan r (in_plan r there) (omega (arith, n.1, before)), n.1)
  ]

  seen_ready : (t r : ℕ) → tick ≤ t → t < later → r < length rows → IsReadyBy rows holds (so_far t plan) t r → IsReadyBy rows holds plan t r
  seen_ready t r le before there i = ready_falls rows hr holds (so_far t plan) plan t r there
      (λ a lt. omega (arith, all_seen t a le before (omega (arith, lt, there)))) i

  still_later : (t r : ℕ) → tick ≤ t → r < length rows → t < start_of plan r → NotStarted rows plan r
  still_later t r le there lt = elim (started_or_not r there) [ inl s ↦ absurd (omega (arith, g.come r s, le, lt)) | inr n ↦ n ]

  -- ---- all rows have started

  pub greedy_all : ((r : ℕ) → NotStarted rows plan r → ⊥) → (t : ℕ) → IsGreedyBy rows holds p plan workers t
  greedy_all none t = record {
    ready = λ r there e. record {
      there = there;
      waits = omega (arith, e);
      ready = subst (λ (s : ℕ). IsReadyBy rows holds (so_far s plan) s r) e (g.ready r (all r there));
    };
    free = λ r there e. subst (λ (s : ℕ). IsFree rows p plan workers s (worker_of workers r)) e (g.free r (all r there));
    rising = λ a b lt there e f. g.rising a b lt (all a (omega (arith, lt, there))) (all b there) (e ∙ sym f);
    least_rows = λ a b i lt there e. g.least_rows a b t (early b i.there lt) i lt there e;
    none_idle = λ b w i lt free. g.none_idle b w t (early b i.there lt) i lt free;
    least_workers = λ r w there e free lt. subst (λ (s : ℕ). IsTaken rows plan workers s w) e
        (g.least_workers r w (all r there) (subst (λ (s : ℕ). IsFree rows p plan workers s w) (sym e) free) lt);
  }
    where
      all : (r : ℕ) → r < length rows → HasStarted rows plan r
      all r there = elim (started_or_not r there) [ inl s ↦ s | inr n ↦ absurd (none r n) ]

      early : (b : ℕ) → b < length rows → t < start_of plan b → t < tick
      early b there lt = omega (arith, lt, g.come b (all b there))

  module _ (free : List ℕ) (f : AreFreeFrom rows p plan workers free) (n : IsNext rows holds plan workers free tick) where
    -- a worker that is free at a tick is free from then on, or gets a row then
    free_or_taken : (t w : ℕ) → tick ≤ t → IsFree rows p plan workers t w → (slice_index free w ≤ t) ⊎ IsTaken rows plan workers t w
    free_or_taken t w le i = elim (f.reached w i.below) [
      | inl e ↦ inl (omega (arith, e))
      | inr (r, s, on, e) ↦ elim (cases_lt (start_of plan r) t) [
        | inl lt ↦ inl (omega (arith, e, i.idle r s.0 on lt))
        | inr ge ↦ inr (r, s.0, omega (arith, ge, g.come r s, le), on)
      ]
    ]

    -- ---- on to a later tick

    module _ (next : ℕ) (le : tick ≤ next) (before : next < later) (idle : (t : ℕ) → tick ≤ t → t < next
        → ((w : ℕ) → w < p → t < slice_index free w) ⊎ ((b : ℕ) → NotStarted rows plan b → IsReadyBy rows holds plan t b → ⊥)) where
      can : (t b : ℕ) → tick ≤ t → t < next → CanStartAt rows holds plan t b → IsReadyBy rows holds plan t b
      can t b ge lt i = seen_ready t b ge (omega (arith, lt, before)) i.there i.ready

      pub goes_on : IsGreedySoFar rows holds p plan workers next
      goes_on = record {
        whole = g.whole;
        all_served = g.all_served;
        most = g.most;
        come = λ r s. omega (arith, g.come r s, le);
        before = before;
        ready = g.ready;
        free = g.free;
        rising = g.rising;
        least_workers = g.least_workers;
        least_rows = λ a b t lt i after there e. elim (cases_lt t tick) [
          | inl early ↦ g.least_rows a b t early i after there e
          | inr ge ↦ (
              let s : HasStarted rows plan a = (there, omega (arith, e, lt, before)) in
              let now : t ≡ tick = omega (arith, g.come a s, e, ge) in
              n.rows_rise a b s (omega (arith, e, now)) (still_later t b ge i.there after)
              (subst (λ (x : ℕ). IsReadyBy rows holds plan x b) now (can t b ge lt i)))
        ];
        none_idle = λ b w t lt i after is_free. elim (cases_lt t tick) [
          | inl early ↦ g.none_idle b w t early i after is_free
          | inr ge ↦ elim (idle t ge lt) [
            | inl busy ↦ elim (free_or_taken t w ge is_free) [
              | inl by ↦ absurd (omega (arith, by, busy w is_free.below))
              | inr taken ↦ taken
            ]
            | inr none ↦ absurd (none b (still_later t b ge i.there after) (can t b ge lt i))
          ]
        ];
      }

      pub next_goes_on : IsNext rows holds plan workers free next
      next_goes_on = record {
        rows_rise = λ a b s e not i. (
            let now : next ≡ tick = omega (arith, g.come a s, e, le) in
            n.rows_rise a b s (omega (arith, e, now)) not (subst (λ (x : ℕ). IsReadyBy rows holds plan x b) now i));
        workers_rise = λ a w s e below by. (
            let now : next ≡ tick = omega (arith, g.come a s, e, le) in
            n.workers_rise a w s (omega (arith, e, now)) below (omega (arith, by, now)));
      }

    -- ---- one more start

    module _ (r w : ℕ) (not : NotStarted rows plan r) (ready : IsReadyBy rows holds plan tick r)
        (least : (b : ℕ) → NotStarted rows plan b → IsReadyBy rows holds plan tick b → r ≤ b) (below : w < p) (by : slice_index free w ≤ tick)
        (first : (k : ℕ) → k < w → tick < slice_index free k) (plan' workers' free' : List ℕ) (ps : Puts plan plan' r tick) (pw : Puts workers workers' r w)
        (pf : Puts free free' w (tick + ticks_of rows r)) where
      -- a row that has started now had before, or it is this one
      was : (a : ℕ) → a ≢ r → HasStarted rows plan' a → HasStarted rows plan a
      was a ne s = (s.0, omega (arith, s.1, ps.others a ne))

      now_not : (b : ℕ) → NotStarted rows plan' b → (b ≢ r) × NotStarted rows plan b
      now_not b s =
          let ne : b ≢ r = λ e. (let at : start_of plan' b ≡ tick = ap (start_of plan') e ∙ ps.at in omega (arith, at, s.1, g.before)) in
          (ne, (s.0, omega (arith, s.1, ps.others b ne)))

      differs : (q : ℕ) → start_of plan q < later → q ≢ r
      differs q lt e = (let at : start_of plan q ≡ later = ap (start_of plan) e ∙ not.1 in omega (arith, at, lt))

      here : (a : ℕ) → a ≡ r → (start_of plan' a ≡ tick) × (worker_of workers' a ≡ w)
      here a e = (ap (start_of plan') e ∙ ps.at, ap (worker_of workers') e ∙ pw.at)

      -- no row is seen to start later than before
      sooner : (t q : ℕ) → q < length rows → start_of (so_far t plan') q ≤ start_of (so_far t plan) q
      sooner t q there =
          let in_new : q < length plan' = omega (arith, there, g.whole, ps.whole) in
          elim (cases_eq q r) [
            | inl e ↦ (
                let old : start_of plan q ≡ later = ap (start_of plan) e ∙ not.1 in
                let low = cut_no_sooner t plan q (in_plan q there) (omega (arith, old)) in
                elim (cases_lt t (start_of plan' q)) [
                  | inl late ↦ omega (arith, cut_late t plan' q in_new late, low, old)
                  | inr early ↦ omega (arith, cut_early t plan' q in_new early, low, old, (here q e).0, g.before)
                ])
            | inr ne ↦ elim (cases_lt t (start_of plan q)) [
              | inl late ↦ omega (
                arith,
                cut_late t plan q (in_plan q there) late,
                cut_late t plan' q in_new (omega (arith, late, ps.others q ne)),
              )
              | inr early ↦ omega (
                arith,
                cut_early t plan q (in_plan q there) early,
                cut_early t plan' q in_new (omega (arith, early, ps.others q ne)),
                ps.others q ne,
              )
            ]
          ]

      -- before this tick all is seen as before
      no_sooner : (t q : ℕ) → t < tick → q < length rows → start_of (so_far t plan) q ≤ start_of (so_far t plan') q
      no_sooner t q lt there =
          let in_new : q < length plan' = omega (arith, there, g.whole, ps.whole) in
          elim (cases_eq q r) [
            | inl e ↦ omega (
              arith,
              cut_late t plan q (in_plan q there) (omega (arith, ap (start_of plan) e ∙ not.1, lt, g.before)),
              cut_late t plan' q in_new (omega (arith, (here q e).0, lt)),
            )
            | inr ne ↦ elim (cases_lt t (start_of plan q)) [
              | inl late ↦ omega (
                arith,
                cut_late t plan q (in_plan q there) late,
                cut_late t plan' q in_new (omega (arith, late, ps.others q ne)),
              )
              | inr early ↦ omega (
                arith,
                cut_early t plan q (in_plan q there) early,
                cut_early t plan' q in_new (omega (arith, early, ps.others q ne)),
                ps.others q ne,
              )
            ]
          ]

      -- a worker that is free now was before, and who was taken is taken still
      free_back : (t v : ℕ) → t ≤ tick → IsFree rows p plan' workers' t v → IsFree rows p plan workers t v
      free_back t v le i = record {
        below = i.below;
        idle = λ q there on lt. (
            let ne = differs q (omega (arith, lt, le, g.before)) in
            let ends = i.idle q there (omega (arith, on, pw.others q ne)) (omega (arith, lt, ps.others q ne)) in
            omega (arith, ends, ps.others q ne));
      }

      taken_up : (t v : ℕ) → t ≤ tick → IsTaken rows plan workers t v → IsTaken rows plan' workers' t v
      taken_up t v le x =
          let ne = differs x.0 (omega (arith, x.2, le, g.before)) in
          (x.0, x.1, omega (arith, x.2, ps.others x.0 ne), omega (arith, x.3, pw.others x.0 ne))

      can_back : (t b : ℕ) → t < tick → CanStartAt rows holds plan' t b → t < start_of plan' b → CanStartAt rows holds plan t b × (t < start_of plan b)
      can_back t b lt i after =
          let old : t < start_of plan b = elim (cases_eq b r) [
            | inl e ↦ omega (arith, ap (start_of plan) e ∙ not.1, lt, g.before)
            | inr ne ↦ omega (arith, after, ps.others b ne)
          ] in (
            record {
              there = i.there;
              waits = omega (arith, old);
              ready = ready_falls rows hr holds (so_far t plan') (so_far t plan) t b i.there
                  (λ q less. no_sooner t q lt (omega (arith, less, i.there))) i.ready;
            },
            old,
          )

      not_now : (a t : ℕ) → t < tick → start_of plan' a ≡ t → a ≢ r
      not_now a t lt e same = omega (arith, (here a same).0, e, lt)

      ready_here : IsReadyBy rows holds (so_far tick plan') tick r
      ready_here = ready_falls rows hr holds plan (so_far tick plan') tick r not.0 (λ q lt. (
          let there : q < length rows = omega (arith, lt, not.0) in
          omega (arith, sooner tick q there, all_seen tick q (omega arith) g.before there))) ready

      pub start_greedy : IsGreedySoFar rows holds p plan' workers' tick
      start_greedy = record {
        whole = omega (arith, ps.whole, g.whole);
        all_served = omega (arith, pw.whole, g.all_served);
        most = λ a there. elim (cases_eq a r) [
          | inl e ↦ omega (arith, (here a e).0, g.before)
          | inr ne ↦ omega (arith, ps.others a ne, g.most a there)
        ];
        come = λ a s. elim (cases_eq a r) [
          | inl e ↦ omega (arith, (here a e).0)
          | inr ne ↦ omega (arith, ps.others a ne, g.come a (was a ne s))
        ];
        before = g.before;
        ready = λ a s. elim (cases_eq a r) [
          | inl e ↦ subst (λ (x : ℕ). IsReadyBy rows holds (so_far x plan') x a) (sym (here a e).0)
              (subst (λ (x : ℕ). IsReadyBy rows holds (so_far tick plan') tick x) (sym e) ready_here)
          | inr ne ↦ subst (λ (x : ℕ). IsReadyBy rows holds (so_far x plan') x a) (sym (ps.others a ne))
              (ready_falls rows hr holds (so_far (start_of plan a) plan) (so_far (start_of plan a) plan') (start_of plan a) a s.0
              (λ q lt. sooner (start_of plan a) q (omega (arith, lt, s.0))) (g.ready a (was a ne s)))
        ];
        free = λ a s. elim (cases_eq a r) [
          | inl e ↦ record {
            below = omega (arith, (here a e).1, below);
            idle = λ q there on lt. (
                let ne : q ≢ r = λ same. omega (arith, (here q same).0, (here a e).0, lt) in
                let old : HasStarted rows plan q = (there, omega (arith, lt, ps.others q ne, (here a e).0, g.before)) in
                let at : worker_of workers q ≡ w = omega (arith, on, (here a e).1, pw.others q ne) in
                let ends : end_of rows plan q ≤ slice_index free w = subst (λ (x : ℕ). end_of rows plan q ≤ slice_index free x) at (f.above q old) in
                omega (arith, ends, by, (here a e).0, ps.others q ne));
          }
          | inr ne ↦ (
              let old = was a ne s in
              let i = g.free a old in
              record {
                below = omega (arith, i.below, pw.others a ne);
                idle = λ q there on lt. (
                    let other : q ≢ r = λ same. omega (arith, (here q same).0, lt, ps.others a ne, g.come a old) in
                    let ends = i.idle q there (omega (arith, on, pw.others q other, pw.others a ne))
                    (omega (arith, lt, ps.others q other, ps.others a ne)) in
                    omega (arith, ends, ps.others q other, ps.others a ne));
              })
        ];
        rising = λ a b lt sa sb e. elim (cases_eq a r) [
          | inl same ↦ (
              let ne : b ≢ r = λ also. omega (arith, same, also, lt) in
              let old = was b ne sb in
              absurd (omega (arith, n.rows_rise b r old (omega (arith, e, ps.others b ne, (here a same).0)) not ready, same, lt)))
          | inr ne ↦ elim (cases_eq b r) [
            | inl same ↦ (
                let old = was a ne sa in
                omega (
                  arith,
                  n.workers_rise a w old (omega (arith, e, ps.others a ne, (here b same).0)) (omega (arith, below, f.whole)) by,
                  pw.others a ne,
                  (here b same).1,
                ))
            | inr other ↦ omega (
              arith,
              g.rising a b lt (was a ne sa) (was b other sb) (omega (arith, e, ps.others a ne, ps.others b other)),
              pw.others a ne,
              pw.others b other,
            )
          ]
        ];
        least_workers = λ a v s i lt. elim (cases_eq a r) [
          | inl e ↦ (
              let at = here a e in
              let old = free_back tick v (omega arith) (subst (λ (x : ℕ). IsFree rows p plan' workers' x v) at.0 i) in
              elim (free_or_taken tick v (omega arith) old) [
                | inl free_by ↦ absurd (omega (arith, free_by, first v (omega (arith, lt, at.1))))
                | inr taken ↦ subst (λ (x : ℕ). IsTaken rows plan' workers' x v) (sym at.0) (taken_up tick v (omega arith) taken)
              ])
          | inr ne ↦ (
              let old = was a ne s in
              let le = g.come a old in
              let same = ps.others a ne in
              let i_old = free_back (start_of plan a) v le (subst (λ (x : ℕ). IsFree rows p plan' workers' x v) same i) in
              subst (λ (x : ℕ). IsTaken rows plan' workers' x v) (sym same)
              (taken_up (start_of plan a) v le (g.least_workers a v old i_old (omega (arith, lt, pw.others a ne)))))
        ];
        least_rows = λ a b t lt i after there e. (
            let ne = not_now a t lt e in
            let (old, still) = can_back t b lt i after in
            g.least_rows a b t lt old still there (omega (arith, e, ps.others a ne)));
        none_idle = λ b v t lt i after free_now. (
            let (old, still) = can_back t b lt i after in
            let le : t ≤ tick = omega (arith, lt) in
            taken_up t v le (g.none_idle b v t lt old still (free_back t v le free_now)));
      }

      pub start_free : AreFreeFrom rows p plan' workers' free'
      start_free = record {
        whole = omega (arith, pf.whole, f.whole);
        below = λ a s. elim (cases_eq a r) [
          | inl e ↦ omega (arith, (here a e).1, below)
          | inr ne ↦ omega (arith, pw.others a ne, f.below a (was a ne s))
        ];
        above = λ a s. elim (cases_eq a r) [
          | inl e ↦ (
              let at : slice_index free' (worker_of workers' a) ≡ tick + ticks_of rows r = ap (slice_index free') (here a e).1 ∙ pf.at in
              let ticks : ticks_of rows a ≡ ticks_of rows r = ap (ticks_of rows) e in
              omega (arith, at, ticks, (here a e).0))
          | inr ne ↦ (
              let old = f.above a (was a ne s) in
              elim (cases_eq (worker_of workers' a) w) [
                | inl on ↦ (
                    let at : slice_index free' (worker_of workers' a) ≡ tick + ticks_of rows r = ap (slice_index free') on ∙ pf.at in
                    let was_on : worker_of workers a ≡ w = omega (arith, on, pw.others a ne) in
                    let ends : end_of rows plan a ≤ slice_index free w =
                    subst (λ (x : ℕ). end_of rows plan a ≤ slice_index free x) was_on old in
                    omega (arith, at, ends, by, ps.others a ne))
                | inr off ↦ (
                    let at = pf.others (worker_of workers' a) off in
                    let same : slice_index free (worker_of workers' a) ≡ slice_index free (worker_of workers a) =
                    ap (slice_index free) (pw.others a ne) in
                    omega (arith, at, same, old, ps.others a ne))
              ])
        ];
        reached = λ v low. elim (cases_eq v w) [
          | inl e ↦ inr (
            r,
            (not.0, omega (arith, ps.at, g.before)),
            omega (arith, pw.at, e),
            (let at : slice_index free' v ≡ tick + ticks_of rows r = ap (slice_index free') e ∙ pf.at in omega (arith, at, ps.at)),
          )
          | inr ne ↦ elim (f.reached v low) [
            | inl e ↦ inl (omega (arith, e, pf.others v ne))
            | inr (q, s, on, e) ↦ (
                let other = differs q s.1 in
                inr (
                  q,
                  (s.0, omega (arith, s.1, ps.others q other)),
                  omega (arith, on, pw.others q other),
                  omega (arith, e, ps.others q other, pf.others v ne),
                ))
          ]
        ];
      }

      pub start_next : IsNext rows holds plan' workers' free' tick
      start_next = record {
        rows_rise = λ a b s e unstarted i. (
            let (ne, old) = now_not b unstarted in
            let after : r < b = elim (cases_lt b r) [
              | inl lt ↦ absurd (
                  let back = ready_falls rows hr holds plan' plan tick b old.0
                  (λ q less. omega (arith, ps.others q (λ same. omega (arith, same, less, lt)))) i in
                  omega (arith, least b old back, lt))
              | inr ge ↦ omega (arith, ge, ne)
            ] in
            elim (cases_eq a r) [
              | inl same ↦ omega (arith, same, after)
              | inr other ↦ omega (arith, n.rows_rise a r (was a other s) (omega (arith, e, ps.others a other)) not ready, after)
            ]);
        workers_rise = λ a v s e low free_by. elim (cases_eq v w) [
          | inl same ↦ absurd (
              let at : slice_index free' v ≡ tick + ticks_of rows r = ap (slice_index free') same ∙ pf.at in
              omega (arith, at, free_by, hr.ticks_low r not.0))
          | inr ne ↦ (
              let old : slice_index free v ≤ tick = omega (arith, free_by, pf.others v ne) in
              elim (cases_eq a r) [
                | inl same ↦ elim (cases_lt v w) [
                  | inl lt ↦ absurd (omega (arith, first v lt, old))
                  | inr ge ↦ omega (arith, ge, ne, (here a same).1)
                ]
                | inr other ↦ omega (
                  arith,
                  n.workers_rise a v (was a other s) (omega (arith, e, ps.others a other)) (omega (arith, low, pf.whole)) old,
                  pw.others a other,
                )
              ])
        ];
      }
