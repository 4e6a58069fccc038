-- One more row gets its times: it keeps the rules, as early as it can.
use Rattle.std.proofs.Common.{◌≡◌, inl, inr, ℕ, ◌+◌, ◌-◌, ◌*◌, ◌<◌, ◌≤◌, max, Bool, true, false, true≢false, cond, List, length, Option}
use Rattle.std.proofs.Common.{refl, subst, sym, ap, ◌∙◌, arith}
use Rattle.std.specs.Prelude.{slice_index}
use Rattle.std.specs.List.{Contains}
use Rattle.std.proofs.lemmas.Bool.{cases_eq}
use Rattle.boc_program.specs.declared.limits.TheConstants.{MOST_COWNS, MOST_TICKS}
use Rattle.boc_runs.specs.declared.rows.Row.{Row}
use Rattle.boc_runs.specs.Rows.{IsRows, parent_of, offset_of, ticks_of, cowns_of, written_of}
use Rattle.boc_plans.specs.Plans.{IsChild, ConflictOn}
use Rattle.boc_order.proofs.Found.{among_tells}
use Rattle.boc_order.proofs.Near.{writes_own}
use Rattle.boc_uses.specs.declared.uses.Use.{Use}
use Rattle.boc_turns.specs.declared.pace.Wait.{Wait}
use Rattle.boc_turns.specs.Pace.{made_by, wait_of}
use Rattle.boc_turns.specs.Turns.{AreUses, Times, over, IsTurn, KeepsTurn, KeepsRow, KeepsTurns, IsNoLater, IsOverBy}
use Rattle.boc_turns.specs.Course.{wrote_cown, HasLeft, IsLatest, IsLowRow, HavePassed, IsLast}
use Rattle.boc_turns.proofs.Least.{over_cases, over_le, made_more}
use Rattle.boc_turns.proofs.Pacing.{waits_ge, waits_has, waits_least, made_step}
use Rattle.boc_turns.proofs.Gathering.{use_has}

-- a row has a turn only at a cown that it has
pub turn_has : (rows : List Row) (uses : List (Option Use)) (relaxed : ℕ → Bool) (r c : ℕ) (u : Use) → IsTurn rows uses relaxed r c u
    → Contains (cowns_of rows r) c
turn_has rows uses relaxed r c u turn = use_has (cowns_of rows r) _ c u turn.is_use

-- ---- times that agree on the first n rows

pub record Agree (times others : Times) (n : ℕ) : Type 0 where
  pub made : (r k : ℕ) → r < n → others.made r k ≡ times.made r k
  pub begun : (r c : ℕ) → r < n → others.begun r c ≡ times.begun r c

module _ (rows : List Row) (hr : IsRows rows) (uses : List (Option Use)) (relaxed : ℕ → Bool) (times others : Times) (n : ℕ)
    (agree : Agree times others n) where
  over_agrees : (r c : ℕ) (u : Use) → r < n → over others r c u ≡ over times r c u
  over_agrees r c u h = λ i. cond u.needed (agree.made r u.last h i) (agree.begun r c h i + (u.last + 1 - u.first))

  parent_first : (a b : ℕ) → IsChild rows a b → a < b
  parent_first a b c = omega (arith, hr.parent_before b c.not_main c.there, c.parent)

  turn_agrees : (b c : ℕ) (u : Use) → b < n → KeepsTurn rows uses times b c u → KeepsTurn rows uses others b c u
  turn_agrees b c u h t = record {
    after = λ a v before conflict is. omega (arith, over_agrees a c v (omega (arith, before, h)), agree.begun b c h, t.after a v before conflict is);
    from_first = omega (arith, agree.made b u.first h, agree.begun b c h, t.from_first);
    waits = λ need. omega (arith, agree.made b u.first h, agree.begun b c h, t.waits need);
  }

  pub row_agrees : (b : ℕ) → b < n → KeepsRow rows uses relaxed times b → KeepsRow rows uses relaxed others b
  row_agrees b h row = record {
    one_by_one = λ k low. omega (arith, agree.made b k h, agree.made b (k + 1) h, row.one_by_one k low);
    spawned = λ a child. omega (
      arith,
      agree.made a (offset_of rows b) (omega (arith, parent_first a b child, h)),
      agree.made b 0 h,
      row.spawned a child,
    );
    in_order = λ a c before conflict none. omega (
      arith,
      agree.made a (ticks_of rows a) (omega (arith, before, h)),
      agree.made b 0 h,
      row.in_order a c before conflict none,
    );
    turns = λ c u turn. turn_agrees b c u h (row.turns c u turn);
  }

  pub no_later_agrees : (b : ℕ) (other : Times) → b < n → IsNoLater rows uses relaxed times other b → IsNoLater rows uses relaxed others other b
  no_later_agrees b other h le = record {
    ticks = λ k low. omega (arith, agree.made b k h, le.ticks k low);
    turns = λ c u turn. omega (arith, agree.begun b c h, le.turns c u turn);
  }

  pub low_agrees : (b : ℕ) → b < n → IsLowRow rows uses relaxed times b → IsLowRow rows uses relaxed others b
  low_agrees b h low = record {
    ticks = λ k. omega (arith, agree.made b k h, low.ticks k);
    turns = λ c u turn. omega (arith, over_agrees b c u h, low.turns c u turn);
  }

  left_agrees : (c tick a : ℕ) → a < n → HasLeft rows uses relaxed times c tick a → HasLeft rows uses relaxed others c tick a
  left_agrees c tick a h left = record {
    whole = λ none has. omega (arith, agree.made a (ticks_of rows a) h, left.whole none has);
    turn = λ u turn. omega (arith, over_agrees a c u h, left.turn u turn);
  }

  left_agreed : (c tick a : ℕ) → a < n → HasLeft rows uses relaxed others c tick a → HasLeft rows uses relaxed times c tick a
  left_agreed c tick a h left = record {
    whole = λ none has. omega (arith, agree.made a (ticks_of rows a) h, left.whole none has);
    turn = λ u turn. omega (arith, over_agrees a c u h, left.turn u turn);
  }

  over_by_agrees : (tick r : ℕ) → r < n → IsOverBy rows uses relaxed times tick r → IsOverBy rows uses relaxed others tick r
  over_by_agrees tick r h by = record {
    row = omega (arith, agree.made r (ticks_of rows r) h, by.row);
    turns = λ c u turn. omega (arith, over_agrees r c u h, by.turns c u turn);
  }

  over_by_agreed : (tick r : ℕ) → r < n → IsOverBy rows uses relaxed others tick r → IsOverBy rows uses relaxed times tick r
  over_by_agreed tick r h by = record {
    row = omega (arith, agree.made r (ticks_of rows r) h, by.row);
    turns = λ c u turn. omega (arith, over_agrees r c u h, by.turns c u turn);
  }

  left_later : (c tick more a : ℕ) → tick ≤ more → HasLeft rows uses relaxed others c tick a → HasLeft rows uses relaxed others c more a
  left_later c tick more a h left = record {
    whole = λ none has. omega (arith, h, left.whole none has);
    turn = λ u turn. omega (arith, h, left.turn u turn);
  }

  -- a tick is raised to that at which row n leaves a cown, if it passes
  pub record IsRaised (Passes : ℕ → Type 0) (c old new : ℕ) : Type 0 where
    pub above : old ≤ new
    pub own : Passes n → HasLeft rows uses relaxed others c new n
    pub least : (tick : ℕ) → old ≤ tick → (Passes n → HasLeft rows uses relaxed others c tick n) → new ≤ tick

  pub latest_more : (Passes : ℕ → Type 0) (c old new : ℕ) → IsRaised Passes c old new → IsLatest rows uses relaxed times Passes n c old
      → IsLatest rows uses relaxed others Passes (n + 1) c new
  latest_more Passes c old new raised l = record {
    above = λ a h passes. elim (cases_eq a n) [
      | inl e ↦ subst (HasLeft rows uses relaxed others c new) (sym e) (raised.own (subst Passes e passes))
      | inr ne ↦ (
          let low : a < n = omega arith in
          left_later c old new a raised.above (left_agrees c old a low (l.above a low passes)))
    ];
    least = λ tick all. raised.least tick (l.least tick (λ a h passes. left_agreed c tick a h (all a (omega (arith, h)) passes)))
        (λ passes. all n (omega arith) passes);
  }

  -- the same of the last tick of all
  pub record IsLastRaised (old new : ℕ) : Type 0 where
    pub above : old ≤ new
    pub own : IsOverBy rows uses relaxed others new n
    pub least : (tick : ℕ) → old ≤ tick → IsOverBy rows uses relaxed others tick n → new ≤ tick

  pub last_more : (old new : ℕ) → IsLastRaised old new → IsLast rows uses relaxed times n old → IsLast rows uses relaxed others (n + 1) new
  last_more old new raised l = record {
    above = λ r h. elim (cases_eq r n) [
      | inl e ↦ subst (IsOverBy rows uses relaxed others new) (sym e) raised.own
      | inr ne ↦ (
          let low : r < n = omega arith in
          let by = over_by_agrees old r low (l.above r low) in
          record { row = omega (arith, by.row, raised.above); turns = λ c u turn. omega (arith, by.turns c u turn, raised.above) })
    ];
    least = λ tick all. raised.least tick (l.least tick (λ r h. over_by_agreed tick r h (all r (omega (arith, h))))) (all n (omega arith));
  }

-- ---- when cowns come to row n

-- the first tick by which the rows that row n is ordered after over a cown have left it
pub record IsCome (rows : List Row) (uses : List (Option Use)) (relaxed : ℕ → Bool) (times : Times) (n c came : ℕ) : Type 0 where
  pub above : (a : ℕ) → a < n → ConflictOn rows c a n → HasLeft rows uses relaxed times c came a
  pub least : (tick : ℕ) → ((a : ℕ) → a < n → ConflictOn rows c a n → HasLeft rows uses relaxed times c tick a) → came ≤ tick

module _ (rows : List Row) (hr : IsRows rows) (uses : List (Option Use)) (relaxed : ℕ → Bool) (times : Times) (n : ℕ) (there : n < length rows)
    (held wrote : List ℕ) (p : HavePassed rows uses relaxed times n held wrote) (c : ℕ) (own : Contains (cowns_of rows n) c) where
  small : c < MOST_COWNS
  small = (let (k, h, e) = own in omega (arith, hr.cowns_below n there k c h, e))

  come_written : Contains (written_of rows n) c → IsCome rows uses relaxed times n c (slice_index held c)
  come_written w = (let l = p.held_is c small in record {
    above = λ a h conflict. l.above a h tt;
    least = λ tick all. l.least tick (λ a h passes. record {
      whole = λ none has. (all a h (record { first = has; second = own; wrote = inr w })).whole none has;
      turn = λ u turn. (all a h (record { first = turn_has rows uses relaxed a c u turn; second = own; wrote = inr w })).turn u turn;
    });
  })

  come_read : (Contains (written_of rows n) c → ⊥) → IsCome rows uses relaxed times n c (slice_index wrote c)
  come_read isnt = (let l = p.wrote_is c small in record {
    above = λ a h conflict. elim conflict.wrote [ inl w ↦ l.above a h w | inr w ↦ absurd (isnt w) ];
    least = λ tick all. l.least tick (λ a h w. all a h (record { first = writes_own rows hr a c (omega (arith, h, there)) w; second = own; wrote = inl w }));
  })

  pub is_come : IsCome rows uses relaxed times n c (cond (wrote_cown rows n c) (slice_index held c) (slice_index wrote c))
  is_come = elim (among_tells c (written_of rows n)) [
    | inl (e, w) ↦ rw e (come_written w)
    | inr (e, isnt) ↦ rw e (come_read isnt)
  ]

-- ---- row n

-- what is known of its start and its waits, where its cowns come so
pub record IsNextRow (rows : List Row) (uses : List (Option Use)) (relaxed : ℕ → Bool) (times : Times) (n : ℕ) (came : ℕ → ℕ) (spawned start : ℕ)
    (waits : List Wait) : Type 0 where
  pub main : n ≡ 0 → spawned ≡ 0
  pub child : 0 < n → spawned ≡ times.made (parent_of rows n) (offset_of rows n)
  pub later : spawned ≤ start
  pub above : (c : ℕ) → Contains (cowns_of rows n) c → relaxed c ≡ false → came c ≤ start
  pub least : (tick : ℕ) → spawned ≤ tick → ((c : ℕ) → Contains (cowns_of rows n) c → relaxed c ≡ false → came c ≤ tick) → start ≤ tick
  pub sound : (wait : Wait) → Contains waits wait
      → (c : ℕ) × (u : Use) × IsTurn rows uses relaxed n c u × (u.needed ≡ true) × (wait ≡ wait_of u (came c))
  pub complete : (c : ℕ) (u : Use) → IsTurn rows uses relaxed n c u → u.needed ≡ true → Contains waits (wait_of u (came c))

module _ (rows : List Row) (hr : IsRows rows) (uses : List (Option Use)) (are : AreUses rows uses) (relaxed : ℕ → Bool) (times : Times) (n : ℕ)
    (there : n < length rows) (held wrote : List ℕ) (p : HavePassed rows uses relaxed times n held wrote) (came : ℕ → ℕ)
    (come : (c : ℕ) → Contains (cowns_of rows n) c → IsCome rows uses relaxed times n c (came c)) (spawned start : ℕ) (waits : List Wait)
    (next : IsNextRow rows uses relaxed times n came spawned start waits) where
  -- ---- no tick is too late

  made_low : (a k : ℕ) → a < n → k ≤ MOST_TICKS → times.made a k ≤ n * MOST_TICKS
  made_low a k h few = omega (arith, (p.low a h).ticks k, few, h)

  spawned_low : spawned ≤ n * MOST_TICKS
  spawned_low = elim (cases_eq n 0) [
    | inl e ↦ omega (arith, next.main e)
    | inr ne ↦ (
        let above : 0 < n = omega arith in
        let before : parent_of rows n < n = hr.parent_before n above there in
        let few : offset_of rows n ≤ MOST_TICKS =
        omega (arith, hr.ticks_cover n above there, hr.ticks_high (parent_of rows n) (omega (arith, before, there))) in
        omega (arith, next.child above, made_low (parent_of rows n) (offset_of rows n) before few))
  ]

  pub came_low : (c : ℕ) → Contains (cowns_of rows n) c → came c ≤ n * MOST_TICKS
  came_low c own = (come c own).least (n * MOST_TICKS) (λ a h conflict. record {
    whole = λ none has. made_low a (ticks_of rows a) h (hr.ticks_high a (omega (arith, h, there)));
    turn = λ u turn. omega (arith, (p.low a h).turns c u turn, h);
  })

  start_low : start ≤ n * MOST_TICKS
  start_low = next.least (n * MOST_TICKS) spawned_low (λ c own none. came_low c own)

  pub next_low : (k : ℕ) → made_by start waits k ≤ n * MOST_TICKS + k
  next_low k =
      let l = waits_least k start (n * MOST_TICKS) waits start_low (λ wait has h. (
      let (c, u, turn, need, is) = next.sound wait has in
      let own = turn_has rows uses relaxed n c u turn in
      let within = are.within n c u turn.is_use in
      let late : wait.late ≡ came c + 1 - u.first = ap (λ (w : Wait). w.late) is in
      omega (arith, late, came_low c own, within.from_one))) in
      omega (arith, l)

  -- ---- the times of row n

  module _ (others : Times) (agree : Agree times others n) (made_is : (k : ℕ) → others.made n k ≡ made_by start waits k)
      (begun_is : (c : ℕ) (u : Use) → IsTurn rows uses relaxed n c u → others.begun n c ≡ max (came c) (made_by start waits u.first - 1)) where
    start_is : (k : ℕ) → start + k ≤ others.made n k
    start_is k = omega (arith, made_is k, waits_ge k start waits)

    need_waits : (c : ℕ) (u : Use) → IsTurn rows uses relaxed n c u → u.needed ≡ true → came c + 1 ≤ others.made n u.first
    need_waits c u turn need =
        let within = are.within n c u turn.is_use in
        let late = waits_has u.first start waits (wait_of u (came c)) (next.complete c u turn need) (omega arith) in
        omega (arith, made_is u.first, late, within.from_one)

    next_spawned : (a : ℕ) → IsChild rows a n → others.made a (offset_of rows n) ≤ others.made n 0
    next_spawned a child =
        let before : parent_of rows n < n = hr.parent_before n child.not_main there in
        let at : others.made (parent_of rows n) (offset_of rows n) ≡ times.made (parent_of rows n) (offset_of rows n) =
        agree.made (parent_of rows n) (offset_of rows n) before in
        subst (λ (x : ℕ). others.made x (offset_of rows n) ≤ others.made n 0) child.parent
        (omega (arith, at, next.child child.not_main, next.later, start_is 0))

    next_turn : (c : ℕ) (u : Use) → IsTurn rows uses relaxed n c u → KeepsTurn rows uses others n c u
    next_turn c u turn =
        let own = turn_has rows uses relaxed n c u turn in
        let is = begun_is c u turn in
        let first = made_is u.first in
        let within = are.within n c u turn.is_use in
        record {
          after = λ a v before conflict use_is. (
              let left = ((come c own).above a before conflict).turn v (record { is_relaxed = turn.is_relaxed; is_use = use_is }) in
              omega (arith, is, over_agrees rows hr uses relaxed times others n agree a c v before, left));
          from_first = omega (arith, is, first);
          waits = λ need. omega (arith, is, first, need_waits c u turn need, start_is u.first, within.from_one);
        }

    pub next_keeps : KeepsRow rows uses relaxed others n
    next_keeps = record {
      one_by_one = λ k low. omega (arith, made_is k, made_is (k + 1), made_step start waits k);
      spawned = next_spawned;
      in_order = λ a c before conflict none. (
          let left = ((come c conflict.second).above a before conflict).whole none conflict.first in
          omega (arith, agree.made a (ticks_of rows a) before, left, next.above c conflict.second none, start_is 0));
      turns = next_turn;
    }

    -- ---- no others that keep the rules are earlier

    module _ (other : Times) (keeps : KeepsTurns rows uses relaxed other) where
      row : KeepsRow rows uses relaxed other n
      row = keeps n there

      before_le : (a : ℕ) → a < n → IsNoLater rows uses relaxed times other a
      before_le a h = p.least other keeps a h

      came_held : (c : ℕ) → Contains (cowns_of rows n) c → relaxed c ≡ false → came c ≤ other.made n 0
      came_held c own none = (come c own).least (other.made n 0) (λ a h conflict. record {
        whole = λ e has. omega (arith, (before_le a h).ticks (ticks_of rows a) (omega arith), row.in_order a c h conflict none);
        turn = λ u turn. absurd (true≢false (sym turn.is_relaxed ∙ none));
      })

      came_turn : (c : ℕ) (u : Use) → IsTurn rows uses relaxed n c u → came c ≤ other.begun n c
      came_turn c u turn = (come c (turn_has rows uses relaxed n c u turn)).least (other.begun n c) (λ a h conflict. record {
        whole = λ none has. absurd (true≢false (sym turn.is_relaxed ∙ none));
        turn = λ v before. omega (
          arith,
          over_le rows uses relaxed are times other a c v (before_le a h) before,
          (row.turns c u turn).after a v h conflict before.is_use,
        );
      })

      spawned_le : spawned ≤ other.made n 0
      spawned_le = elim (cases_eq n 0) [
        | inl e ↦ omega (arith, next.main e)
        | inr ne ↦ (
            let above : 0 < n = omega arith in
            let before : parent_of rows n < n = hr.parent_before n above there in
            let child : IsChild rows (parent_of rows n) n = record { not_main = above; there = there; parent = refl } in
            omega (
              arith,
              next.child above,
              (before_le (parent_of rows n) before).ticks (offset_of rows n) (hr.ticks_cover n above there),
              row.spawned (parent_of rows n) child,
            ))
      ]

      start_le : start ≤ other.made n 0
      start_le = next.least (other.made n 0) spawned_le came_held

      wait_le : (k : ℕ) → k ≤ ticks_of rows n → (wait : Wait) → Contains waits wait → wait.first ≤ k → wait.late + k ≤ other.made n k
      wait_le k few wait has h =
          let (c, u, turn, need, is) = next.sound wait has in
          let within = are.within n c u turn.is_use in
          let late : wait.late ≡ came c + 1 - u.first = ap (λ (w : Wait). w.late) is in
          let first : wait.first ≡ u.first = ap (λ (w : Wait). w.first) is in
          let waited = (row.turns c u turn).waits need in
          let made = made_more rows uses relaxed other n row (k - u.first) u.first k (omega (arith, h, first)) few in
          let from = made_more rows uses relaxed other n row k 0 k (omega arith) few in
          omega (arith, late, came_turn c u turn, waited, made, from, h, first, within.from_one)

      made_le : (k : ℕ) → k ≤ ticks_of rows n → made_by start waits k ≤ other.made n k
      made_le k few =
          let from = made_more rows uses relaxed other n row k 0 k (omega arith) few in
          let l = waits_least k start (other.made n k - k) waits (omega (arith, from, start_le))
          (λ wait has h. (let w = wait_le k few wait has h in omega (arith, w))) in
          omega (arith, l, from)

      pub next_least : IsNoLater rows uses relaxed others other n
      next_least = record {
        ticks = λ k few. omega (arith, made_is k, made_le k few);
        turns = λ c u turn. (
            let within = are.within n c u turn.is_use in
            let first = made_le u.first (omega (arith, within.rises, within.ends)) in
            omega (arith, begun_is c u turn, came_turn c u turn, (row.turns c u turn).from_first, first));
      }

    -- ---- and none is too late

    pub next_low_row : IsLowRow rows uses relaxed others n
    next_low_row = record {
      ticks = λ k. omega (arith, made_is k, next_low k);
      turns = λ c u turn. (
          let within = are.within n c u turn.is_use in
          let high = hr.ticks_high n there in
          let own = turn_has rows uses relaxed n c u turn in
          elim (over_cases others n c u) [
            | inl (need, is) ↦ omega (arith, is, made_is u.last, next_low u.last, within.ends, high)
            | inr (none, is) ↦ omega (
              arith,
              is,
              begun_is c u turn,
              came_low c own,
              next_low u.first,
              within.rises,
              within.ends,
              within.from_one,
              high,
            )
          ]);
    }

    pub passed_more : (held_new wrote_new : List ℕ)
        → ((c : ℕ) → c < MOST_COWNS → IsRaised rows hr uses relaxed times others n agree (λ a. Unit {0}) c (slice_index held c) (slice_index held_new c))
        → ((c : ℕ) → c < MOST_COWNS
        → IsRaised rows hr uses relaxed times others n agree (λ a. Contains (written_of rows a) c) c (slice_index wrote c) (slice_index wrote_new c))
        → HavePassed rows uses relaxed others (n + 1) held_new wrote_new
    passed_more held_new wrote_new held_up wrote_up = record {
      keeps = λ b h. elim (cases_eq b n) [
        | inl e ↦ subst (KeepsRow rows uses relaxed others) (sym e) next_keeps
        | inr ne ↦ (let low : b < n = omega arith in row_agrees rows hr uses relaxed times others n agree b low (p.keeps b low))
      ];
      least = λ other keeps b h. elim (cases_eq b n) [
        | inl e ↦ subst (IsNoLater rows uses relaxed others other) (sym e) (next_least other keeps)
        | inr ne ↦ (let low : b < n = omega arith in no_later_agrees rows hr uses relaxed times others n agree b other low (p.least other keeps b low))
      ];
      low = λ b h. elim (cases_eq b n) [
        | inl e ↦ subst (IsLowRow rows uses relaxed others) (sym e) next_low_row
        | inr ne ↦ (let low : b < n = omega arith in low_agrees rows hr uses relaxed times others n agree b low (p.low b low))
      ];
      held_is = λ c low. latest_more rows hr uses relaxed times others n agree (λ a. Unit {0}) c (slice_index held c) (slice_index held_new c)
          (held_up c low) (p.held_is c low);
      wrote_is = λ c low. latest_more rows hr uses relaxed times others n agree (λ a. Contains (written_of rows a) c) c (slice_index wrote c)
          (slice_index wrote_new c) (wrote_up c low) (p.wrote_is c low);
    }
