-- How many workers a greedy plan uses, and that more of them change nothing.
use Rattle.std.proofs.Common.{◌≡◌, ℕ, ◌+◌, ◌<◌, ◌≤◌, ◌⊎◌, List, length, slice_index, refl, inl, inr, arith}
use Rattle.std.specs.Prelude.{max}
use Rattle.std.proofs.lemmas.Bool.{cases_lt, cases_eq}
use Rattle.boc_runs.specs.declared.rows.Row.{Row}
use Rattle.boc_plans.specs.Plans.{IsEnd, start_of}
use Rattle.boc_plans.specs.Greedy.{IsGreedy, worker_of}
use Rattle.boc_plans.specs.Sweeps.{IsGreedyEnd}

-- the first n of these numbers are below so many, which is 1 or one more than one of them
pub record NeedsSoMany (workers : List ℕ) (n used : ℕ) : Type 0 where
  pub above : (r : ℕ) → r < n → slice_index workers r < used
  pub least : (used ≡ 1) ⊎ ((r : ℕ) × (r < n) × (slice_index workers r + 1 ≡ used))

-- the same with one number more
pub needs_more : (workers : List ℕ) (n used worker : ℕ) → NeedsSoMany workers n used → worker ≡ slice_index workers n
    → NeedsSoMany workers (n + 1) (max (worker + 1) used)
needs_more workers n used worker h is = record {
  above = λ r lt. elim (cases_eq r n) [
    | inl e ↦ rw e (omega (arith, is))
    | inr ne ↦ omega (arith, h.above r (omega (arith, lt, ne)))
  ];
  least = elim (cases_lt used (worker + 1)) [
    | inl more ↦ inr (n, omega arith, omega (arith, is, more))
    | inr le ↦ elim h.least [
      | inl one ↦ inl (omega (arith, le, one))
      | inr some ↦ inr (some.0, omega (arith, some.1), omega (arith, some.2, le))
    ]
  ];
}

-- a plan that is greedy for m workers and uses fewer is greedy for p of them too, where it uses no other
module _ (rows : List Row) (m p : ℕ) (few : p ≤ m) (plan workers : List ℕ) (g : IsGreedy rows m plan workers)
    (within : (r : ℕ) → r < length rows → worker_of workers r < p) where
  pub greedy_for_fewer : IsGreedy rows p plan workers
  greedy_for_fewer = record {
    whole = g.whole;
    all_served = g.all_served;
    at = λ t. (let a = g.at t in record {
      ready = a.ready;
      free = λ r there is. record { below = within r there; idle = (a.free r there is).idle };
      rising = a.rising;
      least_rows = a.least_rows;
      none_idle = λ b w ready late free. a.none_idle b w ready late (record { below = omega (arith, free.below, few); idle = free.idle });
      least_workers = λ r w there is free lt. a.least_workers r w there is (record { below = omega (arith, free.below, few); idle = free.idle }) lt;
    });
  }

-- so its end is that of each number of workers from as many as it uses on
pub end_for_fewer : (rows : List Row) (m used : ℕ) (plan workers : List ℕ) (end : ℕ) → IsGreedy rows m plan workers → IsEnd rows plan end
    → ((r : ℕ) → r < length workers → slice_index workers r < used) → (q : ℕ) → used ≤ q → q ≤ m → IsGreedyEnd rows q end
end_for_fewer rows m used plan workers end g ends above q from to = record {
  plan = plan;
  workers = workers;
  greedy = greedy_for_fewer rows m q to plan workers g (λ r there. omega (arith, above r (omega (arith, there, g.all_served)), from));
  ends = ends;
}

-- and each of its workers is one of the m
pub worker_low : (rows : List Row) (m : ℕ) (plan workers : List ℕ) → IsGreedy rows m plan workers → (r : ℕ) → r < length workers
    → slice_index workers r < m
worker_low rows m plan workers g r there = ((g.at (start_of plan r)).free r (omega (arith, there, g.all_served)) refl).below
