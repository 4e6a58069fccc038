-- Two plans that agree before a tick are greedy alike at every tick before it.
use Rattle.std.proofs.Common.{◌≡◌, ℕ, ◌<◌, ◌≤◌, List, sym, inl, inr, arith}
use Rattle.std.proofs.lemmas.Bool.{cases_lt}
use Rattle.boc_runs.specs.declared.rows.Row.{Row}
use Rattle.boc_runs.specs.Rows.{IsRows}
use Rattle.boc_plans.specs.Plans.{start_of}
use Rattle.boc_plans.specs.Greedy.{worker_of, IsReady, IsFree, IsTaken, IsGreedyAt}

-- the plans have the same rows that start before tick t, on the same workers
pub record Agree (t : ℕ) (plan plan' workers workers' : List ℕ) : Type 0 where
  pub there : (r : ℕ) → start_of plan r < t → (start_of plan' r ≡ start_of plan r) × (worker_of workers' r ≡ worker_of workers r)
  pub back : (r : ℕ) → start_of plan' r < t → (start_of plan' r ≡ start_of plan r) × (worker_of workers' r ≡ worker_of workers r)

pub turned : (t : ℕ) (plan plan' workers workers' : List ℕ) → Agree t plan plan' workers workers' → Agree t plan' plan workers' workers
turned t plan plan' workers workers' a = record {
  there = λ r h. (sym (a.back r h).0, sym (a.back r h).1);
  back = λ r h. (sym (a.there r h).0, sym (a.there r h).1);
}

module _ (rows : List Row) (hr : IsRows rows) (p t : ℕ) (plan plan' workers workers' : List ℕ) (a : Agree t plan plan' workers workers') (u : ℕ) where
  -- a row that is ready by tick t stays so, where it still starts then or later
  pub ready_there : u ≤ t → (r : ℕ) → u ≤ start_of plan' r → IsReady rows plan u r → IsReady rows plan' u r
  ready_there le r waits i = record {
    there = i.there;
    waits = waits;
    spawned = λ b c. (let s = i.spawned b c in omega (arith, s, (a.there b (omega (arith, s, hr.offset_above r c.not_main c.there))).0));
    in_order = λ b o. (let s = i.in_order b o in omega (arith, s, (a.there b (omega (arith, s, hr.ticks_low b (omega (arith, o.before, i.there))))).0));
  }

  pub free_there : u ≤ t → (w : ℕ) → IsFree rows p plan workers u w → IsFree rows p plan' workers' u w
  free_there le w f = record {
    below = f.below;
    idle = λ r h on lt. (let s = a.back r (omega (arith, lt, le)) in
        omega (arith, s.0, f.idle r h (omega (arith, s.1, on)) (omega (arith, s.0, lt))));
  }

  taken_there : u < t → (w : ℕ) → IsTaken rows plan workers u w → IsTaken rows plan' workers' u w
  taken_there lt w x = (let s = a.there x.0 (omega (arith, x.2, lt)) in (x.0, x.1, omega (arith, x.2, s.0), omega (arith, x.3, s.1)))

  pub up : u ≤ t → (r : ℕ) → u ≤ start_of plan r → u ≤ start_of plan' r
  up le r h = elim (cases_lt (start_of plan' r) u) [ inl l ↦ omega (arith, (a.back r (omega (arith, l, le))).0, h) | inr ge ↦ ge ]

-- the plan that agrees is greedy too
pub greedy_there : (rows : List Row) → IsRows rows → (p t : ℕ) (plan plan' workers workers' : List ℕ) → Agree t plan plan' workers workers' → (u : ℕ) → u < t →
    IsGreedyAt rows p plan workers u → IsGreedyAt rows p plan' workers' u
greedy_there rows hr p t plan plan' workers workers' a u lt g = record {
  ready = λ r h e. (let s = (a.back r (omega (arith, e, lt))).0 in
      ready_there rows hr p t plan plan' workers workers' a u (omega (arith, lt)) r (omega (arith, e)) (g.ready r h (omega (arith, e, s))));
  free = λ r h e. (let s = a.back r (omega (arith, e, lt)) in
      rw s.1 (free_there rows hr p t plan plan' workers workers' a u (omega (arith, lt)) (worker_of workers r) (g.free r h (omega (arith, e, s.0)))));
  rising = λ c d l h ec ed. (let sc = a.back c (omega (arith, ec, lt)) in let sd = a.back d (omega (arith, ed, lt)) in
      omega (arith, sc.1, sd.1, g.rising c d l h (omega (arith, ec, sc.0)) (omega (arith, ed, sd.0))));
  least_rows = λ c d i l h ec. g.least_rows c d (old d i) (later_still d l) h (omega (arith, ec, (a.back c (omega (arith, ec, lt))).0));
  none_idle = λ d w i l f. taken_there rows hr p t plan plan' workers workers' a u lt w
      (g.none_idle d w (old d i) (later_still d l) (free_there rows hr p t plan' plan workers' workers b u (omega (arith, lt)) w f));
  least_workers = λ r w h e f l. (let s = a.back r (omega (arith, e, lt)) in
      taken_there rows hr p t plan plan' workers workers' a u lt w
      (g.least_workers r w h (omega (arith, e, s.0)) (free_there rows hr p t plan' plan workers' workers b u (omega (arith, lt)) w f) (omega (arith, l, s.1))));
}
  where
    b : Agree t plan' plan workers' workers
    b = turned t plan plan' workers workers' a

    old : (r : ℕ) → IsReady rows plan' u r → IsReady rows plan u r
    old r i = ready_there rows hr p t plan' plan workers' workers b u (omega (arith, lt)) r
        (up rows hr p t plan' plan workers' workers b u (omega (arith, lt)) r i.waits) i

    later_still : (r : ℕ) → u < start_of plan' r → u < start_of plan r
    later_still r l = elim (cases_lt u (start_of plan r)) [ inl h ↦ h | inr ge ↦ absurd (omega (arith, l, ge, (a.there r (omega (arith, ge, lt))).0)) ]
