-- The simulation goes to the next tick at which something changes, or has come to its end.
use Rattle.std.proofs.Common.{◌≡◌, ℕ, zero, suc, ◌+◌, ◌<◌, ◌≤◌, List, length, refl, sym, subst, inl, inr, arith}
use Rattle.boc_program.specs.declared.limits.TheConstants.{MOST_TICKS}
use Rattle.std.specs.Prelude.{slice_index}
use Rattle.std.proofs.lemmas.Bool.{cases_lt, cases_eq}
use Rattle.boc_runs.specs.declared.rows.Row.{Row}
use Rattle.boc_runs.specs.Rows.{IsRows, parent_of, offset_of}
use Rattle.boc_plans.specs.Plans.{start_of, end_of, IsChild}
use Rattle.boc_plans.specs.Greedy.{IsGreedyAt, IsGreedy, IsMoment}
use Rattle.boc_greedy.specs.declared.frontier.RowState.{RowState}
use Rattle.boc_greedy.specs.declared.frontier.RowState.TheVariants.{Unspawned, UnderWay, Over}
use Rattle.boc_greedy.specs.RowStates.{IsAt}
use Rattle.boc_greedy.specs.Queues.{Entry, IsIn}
use Rattle.boc_greedy.specs.Simulating.{Kept, IsFresh, Given, HasPassed, IsFull}
use Rattle.boc_greedy.proofs.Puts.{at_state, unspawned_or_not}
use Rattle.boc_greedy.proofs.Standing.{there, started, start_low, offset_low, change_low, change_first, its_change, parent_there, parent_under_way, greedy_now}

module _ (rows : List Row) (hr : IsRows rows) (p end : ℕ) (starts workers : List ℕ) (states : List RowState) (first : List ℕ) (queue : List Entry) (idle t : ℕ)
    (k : Kept rows p end starts workers states first queue idle t) (g : Given rows p starts workers states idle t)
    (passed : HasPassed queue t) (full : IsFull rows states idle) where
  -- the next tick
  module _ (r u : ℕ) (top : IsIn queue u r) (least : (at q : ℕ) → IsIn queue at q → u ≤ at) (early : u + MOST_TICKS < end) where
    pub forward : t < u
    forward = passed u r top

    pub kept_next : Kept rows p end starts workers states first queue idle u
    kept_next = record {
      states_are = k.states_are;
      early = early;
      under_way = λ q e. (let o = k.under_way q e in record
          { begun = omega (arith, o.begun, forward); below = o.below; taken = o.taken; change = o.change; queued = o.queued });
      over = λ q e. omega (arith, k.over q e, forward);
      spawned = λ a b c out. omega (arith, k.spawned a b c out, forward);
      busy = λ at q i. (let y = k.busy at q i in record { under_way = y.under_way; ahead = least at q i; spawns = y.spawns; ends = y.ends });
      greedy = λ x lt. elim (cases_lt x t) [
        | inl l ↦ k.greedy x l
        | inr ge ↦ greedy_now rows hr p end starts workers states first queue idle t k x ge (omega (arith, lt, early))
            (λ at q i. omega (arith, least at q i, lt)) full g
      ];
    }

    pub fresh_next : IsFresh rows starts u
    fresh_next r h e = omega (arith, forward, e, start_low rows hr p end starts workers states first queue idle t k r h (omega (arith, e, early)))

    pub next_moment : IsMoment rows starts u
    next_moment =
        let y = k.busy u r top in
        let h = there rows hr p end starts workers states first queue idle t k r UnderWay y.under_way in
        elim (cases_lt (slice_index first r) (length rows)) [
          | inl l ↦ inr (inr (r, slice_index first r, (k.states_are.left r h).child_is l, sym (y.spawns l)))
          | inr ge ↦ inr (inl (r, h, sym (y.ends ge)))
        ]

    -- no moment lies in between
    no_end : (r x : ℕ) → r < length rows → end_of rows starts r ≡ x → t < x → x ≤ u → x ≡ u
    no_end r x h e lt le = elim (started rows hr p end starts workers states first queue idle t k r h (omega (arith, e, le, early))) [
      | inl s ↦ omega (
        arith,
        e,
        le,
        least _ r (k.under_way r s).queued,
        change_low rows hr p end starts workers states first queue idle t k r _
            (its_change rows hr p end starts workers states first queue idle t k r s),
      )
      | inr s ↦ absurd (omega (arith, k.over r s, e, lt))
    ]

    no_spawn : (a b x : ℕ) → IsChild rows a b → start_of starts a + offset_of rows b ≡ x → t < x → x ≤ u → x ≡ u
    no_spawn a b x c e lt le = elim (unspawned_or_not states b (omega (arith, k.states_are.states_whole, c.there))) [
      | inl s ↦ (
          let h : a < length rows = omega (arith, parent_there rows hr p end starts workers states first queue idle t k a b c, c.there) in
          let q = parent_under_way rows hr p end starts workers states first queue idle t k a b c s h (omega (arith, e, le, early)) in
          omega (
            arith,
            e,
            le,
            least _ a (k.under_way a q).queued,
            change_first rows hr p end starts workers states first queue idle t k a _
                (its_change rows hr p end starts workers states first queue idle t k a q) b c s,
          ))
      | inr out ↦ absurd (omega (arith, k.spawned a b c out, e, lt))
    ]

    pub no_moment : (x : ℕ) → IsMoment rows starts x → t < x → x ≤ u → x ≡ u
    no_moment x (inl z) lt le = absurd (omega (arith, z, lt))
    no_moment x (inr (inl m)) lt le = no_end m.0 x m.1 m.2 lt le
    no_moment x (inr (inr m)) lt le = no_spawn m.0 m.1 x m.2 m.3 lt le

  -- no tick is left
  module _ (some : 0 < p) (none : (at q : ℕ) → IsIn queue at q → ⊥) where
    over_by : (r : ℕ) → r < length rows → ((a : ℕ) → a < r → IsAt states a Over) → IsAt states r Over
    over_by r h before = elim (at_state states r (omega (arith, k.states_are.states_whole, h))) [
      | inl e ↦ absurd (elim (cases_lt 0 r) [
        | inl pos ↦ (let c : IsChild rows (parent_of rows r) r = record { not_main = pos; there = h; parent = refl } in
            k.states_are.all_spawned (parent_of rows r) r c (before (parent_of rows r) (hr.parent_before r pos h)) e)
        | inr ge ↦ (let z : r ≡ 0 = omega (arith, ge) in k.states_are.not_main (subst (λ (x : ℕ). IsAt states x Unspawned) z e))
      ])
      | inr (inl e) ↦ absurd (let (q, on, at) = k.states_are.held 0 some (full r 0 (record { waits = e; clear = λ a o. before a o.before })) in
          none _ q (k.under_way q on).queued)
      | inr (inr (inl e)) ↦ absurd (none _ r (k.under_way r e).queued)
      | inr (inr (inr e)) ↦ e
    ]

    over_below : (n : ℕ) → n ≤ length rows → (r : ℕ) → r < n → IsAt states r Over
    over_below zero h r lt = absurd (omega (arith, lt))
    over_below (suc n) h r lt = elim (cases_eq r n) [
      | inl e ↦ over_by r (omega (arith, lt, h)) (λ a l. over_below n (omega (arith, h)) a (omega (arith, l, e)))
      | inr ne ↦ over_below n (omega (arith, h)) r (omega (arith, lt, ne))
    ]

    pub over_all : (r : ℕ) → r < length rows → end_of rows starts r ≤ t
    over_all r h = k.over r (over_below (length rows) (omega arith) r h)

    greedy_late : (u : ℕ) → t < u → IsGreedyAt rows p starts workers u
    greedy_late u lt = record {
      ready = λ r h e. absurd (omega (arith, e, lt, over_all r h));
      free = λ r h e. absurd (omega (arith, e, lt, over_all r h));
      rising = λ a b l h ea eb. absurd (omega (arith, eb, lt, over_all b h));
      least_rows = λ a b i l h e. absurd (omega (arith, e, lt, over_all a h));
      none_idle = λ b w i l f. absurd (omega (arith, l, lt, over_all b i.there));
      least_workers = λ r w h e f l. absurd (omega (arith, e, lt, over_all r h));
    }

    pub greedy_all : IsGreedy rows p starts workers
    greedy_all = record {
      whole = k.states_are.starts_whole;
      all_served = k.states_are.workers_whole;
      at = λ u. elim (cases_lt u t) [
        | inl l ↦ k.greedy u l
        | inr ge ↦ elim (cases_lt t u) [
          | inl lt ↦ greedy_late u lt
          | inr le ↦ greedy_now rows hr p end starts workers states first queue idle t k u ge (omega (arith, le, k.early)) (λ at q i. absurd (none at q i)) full
              g
        ]
      ];
    }

    pub past_all : (x : ℕ) → IsMoment rows starts x → x ≤ t
    past_all x (inl z) = omega (arith, z)
    past_all x (inr (inl m)) = omega (arith, m.2, over_all m.0 m.1)
    past_all x (inr (inr m)) = (let c = m.2 in
        let a = over_all m.0 (omega (arith, parent_there rows hr p end starts workers states first queue idle t k m.0 m.1 c, c.there)) in
        omega (arith, m.3, a, offset_low rows hr p end starts workers states first queue idle t k m.0 m.1 c))
