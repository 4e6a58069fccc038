-- From when on a row may start for the sake of a cown.
use Rattle.std.proofs.Common.{◌≡◌, inl, inr, ℕ, ◌+◌, ◌-◌, ◌^◌, ◌<◌, ◌≤◌, max, Bool, true, false, List, length, Option, Some, None, refl, sym, ap, ◌∙◌, arith}
use Rattle.std.specs.Prelude.{slice_index}
use Rattle.std.proofs.lemmas.Bool.{cases_lt, cases_eq}
use Rattle.std.proofs.lemmas.List.{get_or_default}
use Rattle.boc_program.specs.declared.limits.TheConstants.{MOST_TICKS}
use Rattle.boc_runs.specs.declared.rows.Row.{Row}
use Rattle.boc_runs.specs.Rows.{cowns_of, parent_of, offset_of}
use Rattle.boc_plans.specs.Plans.{start_of}
use Rattle.boc_greedy.specs.Simulating.{later}
use Rattle.boc_uses.specs.declared.uses.Use.{Use}
use Rattle.boc_turns.specs.Turns.{use_of, IsWithin}
use Rattle.boc_turns.specs.Course.{wrote_cown}
use Rattle.boc_turns.proofs.Gathering.{use_has}
use Rattle.boc_used_greedy.specs.declared.fronts.Front.{Front}
use Rattle.boc_used_greedy.specs.Ready.{came_by, came, IsReadyBy, IsReadyFrom}
use Rattle.boc_used_greedy.specs.Fronts.{left_of, IsFront, IsAllowed}
use Rattle.boc_used_greedy.proofs.Leaving.{own}
use Rattle.boc_used_greedy.proofs.Fronting.{came_told, came_untold}

module _ (rows : List Row) (holds : List (Option Use)) (plan : List ℕ) (r c : ℕ) where
  -- a row that doesn't hold the cown, or doesn't need it, may start at once
  pub allowed_unheld : own rows holds c r ≡ None → IsAllowed rows holds plan r c (Some 0)
  allowed_unheld none = record {
    above = λ t u is e need. absurd cc;
    least = λ t other is all. (let same : 0 ≡ t = cc in omega (arith, same));
    none = λ is. absurd cc;
    low = λ t is. (let same : 0 ≡ t = cc in omega (arith, same));
  }

  pub allowed_unneeded : (u : Use) → own rows holds c r ≡ Some u → u.needed ≡ false → IsAllowed rows holds plan r c (Some 0)
  allowed_unneeded u e unneeded = record {
    above = λ t v is f need. absurd (let same : u ≡ v = cc in let s : true ≡ false = sym need ∙ (ap (λ (x : Use). x.needed) (sym same) ∙ unneeded) in cc);
    least = λ t other is all. (let same : 0 ≡ t = cc in omega (arith, same));
    none = λ is. absurd cc;
    low = λ t is. (let same : 0 ≡ t = cc in omega (arith, same));
  }

  module _ (within : (q : ℕ) (u : Use) → own rows holds c q ≡ Some u → IsWithin MOST_TICKS u) (there : r < length rows) (not : start_of plan r ≡ later)
      (front : Front) (f : IsFront rows holds plan c front) (u : Use) (e : own rows holds c r ≡ Some u) (need : u.needed ≡ true) where
    pub allowed_told : (came_is : ℕ) → r < front.told → came_is < 2 ^ 62 → came_is ≡ came_by (wrote_cown rows r c) (left_of front)
        → IsAllowed rows holds plan r c (Some (came_is + 1 - u.first))
    allowed_told came_is lt low is =
        let same = came_told rows holds c plan front r f (record { held = (u, e); not_started = not }) there lt in
        record {
          above = λ t v at g n. (
              let tick : came_is + 1 - u.first ≡ t = cc in
              let usage : u ≡ v = cc in
              omega (arith, is, same, tick, ap (λ (x : Use). x.first) usage));
          least = λ t other at all. (
              let tick : came_is + 1 - u.first ≡ t = cc in
              omega (arith, is, same, tick, all u e need));
          none = λ at. absurd cc;
          low = λ t at. (let tick : came_is + 1 - u.first ≡ t = cc in omega (arith, tick, low));
        }

    pub allowed_untold : front.told ≤ r → IsAllowed rows holds plan r c None
    allowed_untold ge = record {
      above = λ t v at g n. absurd cc;
      least = λ t other at all. absurd cc;
      none = λ at. (u, e, need, came_untold rows holds c within plan front r f (record { held = (u, e); not_started = not }) there ge);
      low = λ t at. absurd cc;
    }

-- a cown comes soon where both of its ticks are low
pub came_low : (writes : Bool) (front : Front) → front.held < 2 ^ 62 → front.wrote < 2 ^ 62 → came_by writes (left_of front) < 2 ^ 62
came_low true front held wrote = held
came_low false front held wrote = wrote

-- ---- all cowns of a row

-- the row is spawned by a tick, and the first n of its cowns come in time; the row is ready no sooner
pub record IsReadyTo (rows : List Row) (holds : List (Option Use)) (plan : List ℕ) (r n tick : ℕ) : Type 0 where
  pub spawned : 0 < r → start_of plan (parent_of rows r) + offset_of rows r ≤ tick
  pub in_turn : (k : ℕ) (u : Use) → k < n → own rows holds (slice_index (cowns_of rows r) k) r ≡ Some u → u.needed ≡ true
      → came rows holds plan r (slice_index (cowns_of rows r) k) + 1 ≤ tick + u.first
  pub least : (other : ℕ) → IsReadyBy rows holds plan other r → tick ≤ other
  pub low : tick < 2 ^ 63

module _ (rows : List Row) (holds : List (Option Use)) (plan : List ℕ) (r : ℕ) where
  pub ready_none : (tick : ℕ) → (0 < r → start_of plan (parent_of rows r) + offset_of rows r ≡ tick) → (r ≡ 0 → tick ≡ 0) → tick < 2 ^ 63
      → IsReadyTo rows holds plan r 0 tick
  ready_none tick child main low = record {
    spawned = λ above. omega (arith, child above);
    in_turn = λ k u lt e need. absurd (omega (arith, lt));
    least = λ other i. elim (cases_lt 0 r) [
      | inl above ↦ omega (arith, child above, i.spawned above)
      | inr zero_r ↦ (let e : r ≡ 0 = omega (arith, zero_r) in omega (arith, main e))
    ];
    low = low;
  }

  pub ready_more : (n tick c t : ℕ) → IsReadyTo rows holds plan r n tick → slice_index (cowns_of rows r) n ≡ c → IsAllowed rows holds plan r c (Some t)
      → IsReadyTo rows holds plan r (n + 1) (max tick t)
  ready_more n tick c t s at a = record {
    spawned = λ above. omega (arith, s.spawned above);
    in_turn = λ k u lt e need. elim (cases_eq k n) [
      | inl same ↦ (
          let cown : slice_index (cowns_of rows r) k ≡ c = ap (slice_index (cowns_of rows r)) same ∙ at in
          let own_is : own rows holds c r ≡ Some u = ap (λ (x : ℕ). own rows holds x r) (sym cown) ∙ e in
          omega (arith, ap (came rows holds plan r) cown, a.above t u refl own_is need))
      | inr ne ↦ omega (arith, s.in_turn k u (omega (arith, lt, ne)) e need)
    ];
    least = λ other i. omega (arith, s.least other i, a.least t other refl (λ u e need. i.in_turn c u e need));
    low = omega (arith, s.low, a.low t refl);
  }

  pub ready_all : (tick : ℕ) → IsReadyTo rows holds plan r (length (cowns_of rows r)) tick → IsReadyFrom rows holds plan tick r
  ready_all tick s = record {
    ready = record {
      spawned = s.spawned;
      in_turn = λ c u e need. (
          let (k, h, at) = use_has (cowns_of rows r) _ c u e in
          let here : slice_index (cowns_of rows r) k ≡ c = get_or_default (cowns_of rows r) k 0 c h ∙ at in
          let own_is : own rows holds (slice_index (cowns_of rows r) k) r ≡ Some u = ap (λ (x : ℕ). own rows holds x r) here ∙ e in
          omega (arith, ap (came rows holds plan r) here, s.in_turn k u h own_is need));
    };
    least = s.least;
  }

  -- a cown of which nobody knows when it comes
  pub ready_never : (c t : ℕ) → ((q : ℕ) (u : Use) → own rows holds c q ≡ Some u → IsWithin MOST_TICKS u) → IsAllowed rows holds plan r c None
      → t < 2 ^ 63 → IsReadyBy rows holds plan t r → ⊥
  ready_never c t within a low i =
      let (u, e, need, unknown) = a.none refl in
      let w = within r u e in
      omega (arith, i.in_turn c u e need, unknown, low, w.rises, w.ends)
