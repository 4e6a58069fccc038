-- With no relaxed cown a greedy plan with turns is the greedy plan.
use Rattle.std.proofs.Common.{◌≡◌, ◌⊎◌, inl, inr, ℕ, zero, suc, ◌+◌, ◌<◌, ◌≤◌, true, false, List, [], length, Option, refl, subst, sym, arith}
use Rattle.std.proofs.lemmas.Bool.{cases_lt, cases_eq}
use Rattle.boc_runs.specs.declared.rows.Row.{Row}
use Rattle.boc_runs.specs.Rows.{IsRows}
use Rattle.boc_plans.specs.Plans.{start_of, end_of, IsEnd}
use Rattle.boc_plans.specs.Greedy.{IsReady, IsGreedyAt}
use Rattle.boc_plans.specs.Sweeps.{IsGreedyEnd}
use Rattle.boc_uses.specs.declared.uses.Use.{Use}
use Rattle.boc_turns.specs.Turns.{among}
use Rattle.boc_turns.specs.Workers.{IsReadyThen, IsGreedyThen, IsUsedGreedyEnd}

-- one of the first rows ends last of them
last_of : (rows : List Row) (plan : List ℕ) (n : ℕ) → (r : ℕ) × (r < suc n) × ((q : ℕ) → q < suc n → end_of rows plan q ≤ end_of rows plan r)
last_of rows plan zero = (
  0,
  omega arith,
  λ q lt. (let e : q ≡ 0 = omega (arith, lt) in
      subst (λ (x : ℕ). end_of rows plan q ≤ end_of rows plan x) e (omega arith)),
)
last_of rows plan (suc n) = (let (r, low, last) = last_of rows plan n in elim (cases_lt (end_of rows plan (suc n)) (end_of rows plan r)) [
  | inl lt ↦ (
    r,
    omega (arith, low),
    λ q h. elim (cases_eq q (suc n)) [
      | inl e ↦ subst (λ (x : ℕ). end_of rows plan x ≤ end_of rows plan r) (sym e) (omega (arith, lt))
      | inr ne ↦ last q (omega (arith, h, ne))
    ],
  )
  | inr ge ↦ (
    suc n,
    omega arith,
    λ q h. elim (cases_eq q (suc n)) [
      | inl e ↦ subst (λ (x : ℕ). end_of rows plan x ≤ end_of rows plan (suc n)) (sym e) (omega arith)
      | inr ne ↦ omega (arith, last q (omega (arith, h, ne)), ge)
    ],
  )
])

module _ (rows : List Row) (uses : List (Option Use)) (plan : List ℕ) (begun : ℕ → ℕ → ℕ) (t r : ℕ) where
  ready_plain : IsReadyThen rows uses (among []) plan begun t r → IsReady rows plan t r
  ready_plain i = record {
    there = i.there;
    waits = i.waits;
    spawned = i.spawned;
    in_order = λ a o. i.in_order a o.shared.0 o.before o.shared.1 refl;
  }

  ready_turns : IsReady rows plan t r → IsReadyThen rows uses (among []) plan begun t r
  ready_turns i = record {
    there = i.there;
    waits = i.waits;
    spawned = i.spawned;
    in_order = λ a c lt conflict none. i.in_order a (record { before = lt; shared = (c, conflict) });
    known = λ a c u other turn. absurd (let e : false ≡ true = turn.is_relaxed in cc);
    in_turn = λ c tick u turn. absurd (let e : false ≡ true = turn.is_relaxed in cc);
  }

greedy_plain : (rows : List Row) (uses : List (Option Use)) (p : ℕ) (plan workers : List ℕ) (begun : ℕ → ℕ → ℕ) (t : ℕ)
    → IsGreedyThen rows uses (among []) p plan workers begun t → IsGreedyAt rows p plan workers t
greedy_plain rows uses p plan workers begun t g = record {
  ready = λ r there e. ready_plain rows uses plan begun t r (g.ready r there e);
  free = g.free;
  rising = g.rising;
  least_rows = λ a b i. g.least_rows a b (ready_turns rows uses plan begun t b i);
  none_idle = λ b w i. g.none_idle b w (ready_turns rows uses plan begun t b i);
  least_workers = g.least_workers;
}

pub greedy_end_none : (rows : List Row) (uses : List (Option Use)) (p end : ℕ) → IsRows rows → IsUsedGreedyEnd rows uses (among []) p end
    → IsGreedyEnd rows p end
greedy_end_none rows uses p end hr e = record {
  plan = e.plan;
  workers = e.workers;
  greedy = record { whole = e.whole; all_served = e.all_served; at = λ t. greedy_plain rows uses p e.plan e.workers e.begun t (e.at t) };
  ends = record {
    none_later = λ r there. (e.all_over r there).row;
    reached = by_last (length rows) (omega arith) hr.not_empty (omega arith);
  };
}
  where
    by_last : (n : ℕ) → n ≤ length rows → 0 < n → length rows ≤ n → (r : ℕ) × (r < length rows) × (end_of rows e.plan r ≡ end)
    by_last zero le above all = absurd (omega (arith, above))
    by_last (suc n) le above all =
        let (r, low, last) = last_of rows e.plan n in
        let there : r < length rows = omega (arith, low, le) in
        let sooner = e.none_sooner (end_of rows e.plan r) (λ q h. record {
          row = last q (omega (arith, h, all));
          turns = λ c u turn. absurd (let f : false ≡ true = turn.is_relaxed in cc);
        }) in
        (r, there, omega (arith, sooner, (e.all_over r there).row))
