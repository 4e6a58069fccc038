-- Rows are placed one after another where one cown orders nobody: that is the earliest plan of the rows without that cown.
use Rattle.std.proofs.Common.{◌≡◌, ◌≢◌, ◌⊎◌, ℕ, zero, suc, ◌+◌, ◌*◌, ◌<◌, ◌≤◌, max, Bool, true, false, cond, List, [], ◌∷◌, ◌++◌, length, get_or, inl, inr}
use Rattle.std.proofs.Common.{◌-◌, ◌↔◌, IsTrue, Some, take, drop, refl, ap, sym, ◌∙◌, subst, true≢false, arith}
use Rattle.std.specs.Prelude.{slice_index, slice_index_or, slice_get, slice_set, vec_capacity}
use Rattle.std.specs.List.{Contains}
use Rattle.std.proofs.lemmas.List.Sums.{sum_by_more}
use Rattle.std.proofs.lemmas.Option.{slice_get-get_or}
use Rattle.std.proofs.lemmas.Bool.{cases_lt, cases_eq}
use Rattle.std.proofs.lemmas.List.{get_or_default, get_or-set_same, get_or-set_other, length-set, get_or_append_left}
use Rattle.std.proofs.lemmas.List.{get_or_push, length_push, length-drop, get_or-drop, take_all}
use Rattle.std.proofs.lemmas.List.Elements.{Contains-get_or}
use Rattle.boc_program.specs.declared.limits.TheConstants.{MOST_COWNS, MOST_TICKS}
use Rattle.boc_runs.specs.declared.rows.Row.{Row}
use Rattle.boc_runs.specs.Rows.{IsRows, parent_of, offset_of, ticks_of, cowns_of, written_of}
use Rattle.boc_runs.specs.Changes.{without}
use Rattle.boc_runs.proofs.Freeing.{length-without, parent_of-without, offset_of-without, ticks_of-without, cowns_of-without, written_of-without}
use Rattle.boc_plans.specs.Plans.{start_of, end_of, IsChild, ConflictOn, Ordered, Keeps, IsEarliest}
use Rattle.boc_plans.specs.Greedy.{IsSpan}
use Rattle.boc_order.proofs.LeftOut.{kept, was}
use Rattle.boc_order.proofs.Near.{writes_own}
use Rattle.boc_sweep.specs.declared.freed.Placing.{Placing}
use Rattle.boc_sweep.specs.Freed.{OrderedBut, IsStartBut, ArePlacedBut, IsLatestAmong, AreHeldBut, IsPlacedIn, HasPlaced, HasWaited, AreRaised, IsFreed}
use Rattle.boc_sweep.specs.Freed.{cowns_before, in_lane, TellsWritten, TellWritten}
use Rattle.boc_sweep.specs.declared.lanes.TheConstants.{LANES}
use Rattle.boc_sweep.proofs.Laning.{lane_long, lane_set}

-- ---- the latest of some ends

pub latest_none : (rows : List Row) (starts : List ℕ) (Has : ℕ → Type 0) (latest : ℕ) → latest ≡ 0 → IsLatestAmong rows starts Has 0 latest
latest_none rows starts Has latest e = record { above = λ a h has. absurd (omega (arith, h)); reached = inl e }

-- in a plan that agrees on those rows it is the same
latest_same : (rows : List Row) (starts more : List ℕ) (Has : ℕ → Type 0) (n latest : ℕ)
    → ((a : ℕ) → a < n → slice_index more a ≡ slice_index starts a) → IsLatestAmong rows starts Has n latest → IsLatestAmong rows more Has n latest
latest_same rows starts more Has n latest same l = record {
  above = λ a h has. omega (arith, same a h, l.above a h has);
  reached = elim l.reached [ inl e ↦ inl e | inr (a, h, has, e) ↦ inr (a, h, has, omega (arith, same a h, e)) ];
}

-- with one row more
latest_more : (rows : List Row) (starts : List ℕ) (Has : ℕ → Type 0) (n end old new : ℕ) → end ≡ end_of rows starts n → old ≤ new
    → (Has n → end ≤ new) → (new ≡ old) ⊎ (Has n × (new ≡ end)) → IsLatestAmong rows starts Has n old → IsLatestAmong rows starts Has (n + 1) new
latest_more rows starts Has n end old new is grows own either l = record {
  above = λ a h has. elim (cases_eq a n) [
    | inl e ↦ (let mine : Has n = subst Has e has in rw e (omega (arith, is, own mine)))
    | inr ne ↦ omega (arith, grows, l.above a (omega arith) has)
  ];
  reached = elim either [
    | inl same ↦ elim l.reached [
      | inl z ↦ inl (same ∙ z)
      | inr (a, h, has, e) ↦ inr (a, omega (arith, h), has, e ∙ sym same)
    ]
    | inr (has, e) ↦ inr (n, omega arith, has, sym is ∙ sym e)
  ];
}

-- the same of the latest of all
pub latest_all : (rows : List Row) (starts : List ℕ) (n end old new : ℕ) → n < length rows → end ≡ end_of rows starts n → new ≡ max end old
    → IsLatestAmong rows starts (λ a. a < length rows) n old → IsLatestAmong rows starts (λ a. a < length rows) (n + 1) new
latest_all rows starts n end old new there is new_is l =
    latest_more rows starts (λ a. a < length rows) n end old new is (omega (arith, new_is)) (λ h. omega (arith, new_is))
    (elim (cases_lt old end) [ inl lt ↦ inr (there, omega (arith, new_is, lt)) | inr ge ↦ inl (omega (arith, new_is, ge)) ]) l

-- of the rows that conflict with row n on a cown: where it writes that cown, those that need it, else those that wrote it
module _ (rows : List Row) (hr : IsRows rows) (starts : List ℕ) (n own latest : ℕ) (there : n < length rows) (mine : Contains (cowns_of rows n) own) where
  pub latest_writing : Contains (written_of rows n) own → IsLatestAmong rows starts (λ a. Contains (cowns_of rows a) own) n latest
      → IsLatestAmong rows starts (λ a. ConflictOn rows own a n) n latest
  latest_writing w l = record {
    above = λ a h conflict. l.above a h conflict.first;
    reached = elim l.reached [
      | inl z ↦ inl z
      | inr (a, h, has, e) ↦ inr (a, h, record { first = has; second = mine; wrote = inr w }, e)
    ];
  }

  pub latest_reading : (Contains (written_of rows n) own → ⊥) → IsLatestAmong rows starts (λ a. Contains (written_of rows a) own) n latest
      → IsLatestAmong rows starts (λ a. ConflictOn rows own a n) n latest
  latest_reading isnt l = record {
    above = λ a h conflict. elim conflict.wrote [ inl w ↦ l.above a h w | inr w ↦ absurd (isnt w) ];
    reached = elim l.reached [
      | inl z ↦ inl z
      | inr (a, h, w, e) ↦ inr (a, h, record { first = writes_own rows hr a own (omega (arith, h, there)) w; second = mine; wrote = inl w }, e)
    ];
  }

  pub latest_either : (b : Bool) (held wrote : ℕ) → (IsTrue b ↔ Contains (written_of rows n) own) → latest ≡ cond b held wrote
      → IsLatestAmong rows starts (λ a. Contains (cowns_of rows a) own) n held → IsLatestAmong rows starts (λ a. Contains (written_of rows a) own) n wrote
      → IsLatestAmong rows starts (λ a. ConflictOn rows own a n) n latest
  latest_either true held wrote tells is all writers =
      latest_writing (tells.0 refl) (subst (IsLatestAmong rows starts (λ a. Contains (cowns_of rows a) own) n) (sym is) all)
  latest_either false held wrote tells is all writers = latest_reading (λ w. true≢false (sym (tells.1 w)))
      (subst (IsLatestAmong rows starts (λ a. Contains (written_of rows a) own) n) (sym is) writers)

-- ---- raising the ticks of a row's cowns

-- those of the first i are raised
pub record SomeRaised (Own : ℕ → Type 0) (end : ℕ) (cowns : List ℕ) (i : ℕ) (old new : List ℕ) : Type 0 where
  pub whole : length new ≡ length old
  pub above : (c : ℕ) → slice_index old c ≤ slice_index new c
  pub own : (j : ℕ) → j < i → Own (slice_index cowns j) → end ≤ slice_index new (slice_index cowns j)
  pub reached : (c : ℕ) → (slice_index new c ≡ slice_index old c) ⊎ (Own c × (slice_index new c ≡ end))

pub raised_none : (Own : ℕ → Type 0) (end : ℕ) (cowns old : List ℕ) → SomeRaised Own end cowns 0 old old
raised_none Own end cowns old = record {
  whole = refl;
  above = λ c. omega arith;
  own = λ j h. absurd (omega (arith, h));
  reached = λ c. inl refl;
}

module _ (Own : ℕ → Type 0) (end : ℕ) (cowns : List ℕ) (i : ℕ) (old mid : List ℕ) (r : SomeRaised Own end cowns i old mid) where
  -- one that is none of these stays
  pub raised_skip : (Own (slice_index cowns i) → ⊥) → SomeRaised Own end cowns (i + 1) old mid
  raised_skip other = record {
    whole = r.whole;
    above = r.above;
    own = λ j h has. elim (cases_eq j i) [
      | inl e ↦ absurd (other (subst (λ (k : ℕ). Own (slice_index cowns k)) e has))
      | inr ne ↦ r.own j (omega arith) has
    ];
    reached = r.reached;
  }

  -- what was not above the end is not above it now
  pub raised_low : (c : ℕ) → slice_index old c ≤ end → slice_index mid c ≤ end
  raised_low c low = elim (r.reached c) [ inl e ↦ omega (arith, e, low) | inr (has, e) ↦ omega (arith, e) ]

  module _ (new : ℕ) (there : slice_index cowns i < length mid) (has : Own (slice_index cowns i))
      (is : new ≡ max end (slice_index mid (slice_index cowns i))) where
    here : slice_index (slice_set mid (slice_index cowns i) new) (slice_index cowns i) ≡ new
    here = get_or-set_same mid (slice_index cowns i) new 0 there

    grown : (c : ℕ) → slice_index mid c ≤ slice_index (slice_set mid (slice_index cowns i) new) c
    grown c = elim (cases_eq c (slice_index cowns i)) [
      | inl e ↦ rw e (omega (arith, here, is))
      | inr ne ↦ omega (arith, get_or-set_other mid (slice_index cowns i) c new 0 ne)
    ]

    reached_here : (slice_index (slice_set mid (slice_index cowns i) new) (slice_index cowns i) ≡ slice_index old (slice_index cowns i))
        ⊎ (Own (slice_index cowns i) × (slice_index (slice_set mid (slice_index cowns i) new) (slice_index cowns i) ≡ end))
    reached_here = elim (cases_lt (slice_index mid (slice_index cowns i)) end) [
      | inl lt ↦ inr (has, omega (arith, here, is, lt))
      | inr ge ↦ elim (r.reached (slice_index cowns i)) [
        | inl e ↦ inl (omega (arith, here, is, ge, e))
        | inr (mine, e) ↦ inr (mine, omega (arith, here, is, ge, e))
      ]
    ]

    pub raised_more : SomeRaised Own end cowns (i + 1) old (slice_set mid (slice_index cowns i) new)
    raised_more = record {
      whole = length-set mid (slice_index cowns i) new ∙ r.whole;
      above = λ c. omega (arith, r.above c, grown c);
      own = λ j h mine. elim (cases_eq j i) [
        | inl e ↦ rw e (omega (arith, here, is))
        | inr ne ↦ omega (arith, r.own j (omega arith) mine, grown (slice_index cowns j))
      ];
      reached = λ c. elim (cases_eq c (slice_index cowns i)) [
        | inl e ↦ subst (λ (k : ℕ). (slice_index (slice_set mid (slice_index cowns i) new) k ≡ slice_index old k)
            ⊎ (Own k × (slice_index (slice_set mid (slice_index cowns i) new) k ≡ end))) (sym e) reached_here
        | inr ne ↦ (
            let same : slice_index (slice_set mid (slice_index cowns i) new) c ≡ slice_index mid c = get_or-set_other mid (slice_index cowns i) c new 0 ne in
            elim (r.reached c) [ inl e ↦ inl (same ∙ e) | inr (mine, e) ↦ inr (mine, same ∙ e) ])
      ];
    }

-- the same in one of the lanes
pub raised_in : (lane : ℕ) (Own : ℕ → Type 0) (end : ℕ) (cowns : List ℕ) (i : ℕ) (old mid : List (List ℕ)) (ticks : List ℕ)
    → SomeRaised Own end cowns i (in_lane lane old) (in_lane lane mid) → slice_index cowns i < length mid → Own (slice_index cowns i)
    → slice_index ticks lane ≡ max end (slice_index (in_lane lane mid) (slice_index cowns i))
    → SomeRaised Own end cowns (i + 1) (in_lane lane old) (in_lane lane (slice_set mid (slice_index cowns i) ticks))
raised_in lane Own end cowns i old mid ticks r there has is =
    subst (SomeRaised Own end cowns (i + 1) (in_lane lane old)) (sym (lane_set lane mid (slice_index cowns i) ticks))
    (raised_more Own end cowns i (in_lane lane old) (in_lane lane mid) r (slice_index ticks lane) (omega (arith, there, lane_long lane mid)) has is)

-- all of them
pub raised_all : (Own : ℕ → Type 0) (end : ℕ) (cowns : List ℕ) (i : ℕ) (old new : List ℕ) → length cowns ≤ i → ((c : ℕ) → Own c → Contains cowns c)
    → SomeRaised Own end cowns i old new → AreRaised Own end old new
raised_all Own end cowns i old new all among r = record {
  whole = r.whole;
  above = r.above;
  own = λ c has. by_place c has (among c has);
  reached = r.reached;
}
  where
    by_place : (c : ℕ) → Own c → Contains cowns c → end ≤ slice_index new c
    by_place c has (k, h, e) =
        let at : slice_index cowns k ≡ c = get_or_default cowns k 0 c h ∙ e in
        subst (λ (x : ℕ). end ≤ slice_index new x) at (r.own k (omega (arith, h, all)) (subst Own (sym at) has))

-- ---- the start of the next row

-- the first i cowns of row n are looked at
pub record StartSoFar (cown : ℕ) (rows : List Row) (starts : List ℕ) (n i spawned start : ℕ) : Type 0 where
  pub later : spawned ≤ start
  pub in_order : (a j : ℕ) → j < i → slice_index (cowns_of rows n) j ≢ cown → a < n → ConflictOn rows (slice_index (cowns_of rows n) j) a n
      → end_of rows starts a ≤ start
  pub tight : (start ≡ spawned) ⊎ ((a : ℕ) × OrderedBut cown rows a n × (end_of rows starts a ≡ start))

module _ (cown : ℕ) (rows : List Row) (starts : List ℕ) (n spawned : ℕ) where
  pub start_none : StartSoFar cown rows starts n 0 spawned spawned
  start_none = record { later = omega arith; in_order = λ a j h. absurd (omega (arith, h)); tight = inl refl }

  module _ (i start : ℕ) (s : StartSoFar cown rows starts n i spawned start) where
    -- the cown that orders nobody is passed over
    pub start_skip : slice_index (cowns_of rows n) i ≡ cown → StartSoFar cown rows starts n (i + 1) spawned start
    start_skip same = record {
      later = s.later;
      in_order = λ a j h other before conflict. elim (cases_eq j i) [
        | inl e ↦ absurd (other (ap (slice_index (cowns_of rows n)) e ∙ same))
        | inr ne ↦ s.in_order a j (omega arith) other before conflict
      ];
      tight = s.tight;
    }

    module _ (latest next : ℕ) (other : slice_index (cowns_of rows n) i ≢ cown)
        (l : IsLatestAmong rows starts (λ a. ConflictOn rows (slice_index (cowns_of rows n) i) a n) n latest) (is : next ≡ max latest start) where
      tight_take : (next ≡ spawned) ⊎ ((a : ℕ) × OrderedBut cown rows a n × (end_of rows starts a ≡ next))
      tight_take = elim (cases_lt start latest) [
        | inl lt ↦ elim l.reached [
          | inl z ↦ absurd (omega (arith, z, lt))
          | inr (a, h, conflict, e) ↦ inr (
            a,
            record { before = h; shared = (slice_index (cowns_of rows n) i, other, conflict) },
            omega (arith, e, is, lt),
          )
        ]
        | inr ge ↦ (
            let same : start ≡ next = omega (arith, is, ge) in
            elim s.tight [ inl e ↦ inl (sym same ∙ e) | inr (a, o, e) ↦ inr (a, o, e ∙ same) ])
      ]

      -- another one is waited for
      pub start_take : StartSoFar cown rows starts n (i + 1) spawned next
      start_take = record {
        later = omega (arith, s.later, is);
        in_order = λ a j h ne before conflict. elim (cases_eq j i) [
          | inl e ↦ (
              let mine : ConflictOn rows (slice_index (cowns_of rows n) i) a n =
              subst (λ (k : ℕ). ConflictOn rows (slice_index (cowns_of rows n) k) a n) e conflict in
              omega (arith, is, l.above a before mine))
          | inr nj ↦ omega (arith, is, s.in_order a j (omega arith) ne before conflict)
        ];
        tight = tight_take;
      }

    module _ (hr : IsRows rows) (there : n < length rows) (below : i < length (cowns_of rows n)) (latest next : ℕ) (b : Bool) (held wrote : List ℕ)
        (tells : IsTrue b ↔ Contains (written_of rows n) (slice_index (cowns_of rows n) i))
        (latest_is : latest ≡ cond b (slice_index held (slice_index (cowns_of rows n) i)) (slice_index wrote (slice_index (cowns_of rows n) i)))
        (needed : AreHeldBut cown rows cowns_of starts n held) (written : AreHeldBut cown rows written_of starts n wrote)
        (is : next ≡ max latest start) where
      freed_latest : (b : Bool) (latest held wrote : ℕ) → latest ≡ cond b held wrote → held ≡ 0 → wrote ≡ 0 → latest ≡ 0
      freed_latest true latest held wrote e h w = e ∙ h
      freed_latest false latest held wrote e h w = e ∙ w

      -- the cown that orders nobody has been free all the time, and another one is waited for
      pub start_next : StartSoFar cown rows starts n (i + 1) spawned next
      start_next =
          let own : ℕ = slice_index (cowns_of rows n) i in
          elim (cases_eq (slice_index (cowns_of rows n) i) cown) [
            | inl same ↦ (
                let none : latest ≡ 0 = freed_latest b latest (slice_index held own) (slice_index wrote own) latest_is
                (ap (slice_index held) same ∙ needed.freed) (ap (slice_index wrote) same ∙ written.freed) in
                let stays : start ≡ next = omega (arith, is, none) in
                subst (StartSoFar cown rows starts n (i + 1) spawned) stays (start_skip same))
            | inr other ↦ start_take latest next other
                (latest_either rows hr starts n own latest there (Contains-get_or (cowns_of rows n) i 0 below) b (slice_index held own) (slice_index wrote own)
                tells latest_is (needed.others own other) (written.others own other)) is
          ]

    pub start_all : n < length rows → length (cowns_of rows n) ≤ i → (n ≡ 0 → spawned ≡ 0)
        → (0 < n → spawned ≡ slice_index starts (parent_of rows n) + offset_of rows n) → IsStartBut cown rows starts n start
    start_all there all main child = record {
      spawned = λ a c. (
          let at_parent : slice_index starts (parent_of rows n) ≡ slice_index starts a = ap (slice_index starts) c.parent in
          omega (arith, s.later, child c.not_main, at_parent));
      in_order = λ a o. by_place a o o.shared.2.second;
      tight = elim s.tight [
        | inl e ↦ elim (cases_eq n 0) [
          | inl z ↦ inl (e ∙ main z)
          | inr ne ↦ inr (inl (parent_of rows n, record { not_main = omega arith; there = there; parent = refl }, omega (arith, e, child (omega arith))))
        ]
        | inr w ↦ inr (inr w)
      ];
    }
      where
        by_place : (a : ℕ) → (o : OrderedBut cown rows a n) → Contains (cowns_of rows n) o.shared.0 → end_of rows starts a ≤ start
        by_place a o (k, h, e) =
            let at : slice_index (cowns_of rows n) k ≡ o.shared.0 = get_or_default (cowns_of rows n) k 0 o.shared.0 h ∙ e in
            s.in_order a k (omega (arith, h, all)) (λ same. o.shared.1 (sym at ∙ same)) o.before
            (subst (λ (c : ℕ). ConflictOn rows c a n) (sym at) o.shared.2)

-- ---- the rows that are placed

module _ (cown : ℕ) (rows : List Row) (hr : IsRows rows) (starts : List ℕ) where
  parent_first : (a b : ℕ) → IsChild rows a b → a < b
  parent_first a b c = omega (arith, hr.parent_before b c.not_main c.there, c.parent)

  -- a start is no later than all ticks before it allow
  start_low : (b tick : ℕ) → b < length rows → ((a : ℕ) → a < b → start_of starts a ≤ a * MOST_TICKS) → IsStartBut cown rows starts b tick
      → tick ≤ b * MOST_TICKS
  start_low b tick there before s = elim s.tight [
    | inl z ↦ omega (arith, z)
    | inr (inl (a, c, e)) ↦ (
        let above : a < b = parent_first a b c in
        let high = hr.ticks_high a (omega (arith, above, there)) in
        omega (arith, e, before a above, c.parent, hr.ticks_cover b c.not_main there, ap (ticks_of rows) c.parent, high))
    | inr (inr (a, o, e)) ↦ omega (arith, e, before a o.before, o.before, hr.ticks_high a (omega (arith, o.before, there)))
  ]

  module _ (n : ℕ) (few : n ≤ length rows) (p : ArePlacedBut cown rows starts n) where
    low_below : (k a : ℕ) → a < k → a < n → start_of starts a ≤ a * MOST_TICKS
    low_below zero a h there = absurd (omega (arith, h))
    low_below (suc k) a h there =
        start_low a (start_of starts a) (omega (arith, there, few)) (λ b less. low_below k b (omega (arith, h, less)) (omega (arith, there, less)))
        (p.at a there)

    pub placed_low : (a : ℕ) → a < n → start_of starts a ≤ a * MOST_TICKS
    placed_low a there = low_below n a there there

    pub next_low : (tick : ℕ) → n < length rows → IsStartBut cown rows starts n tick → tick ≤ n * MOST_TICKS
    next_low tick there s = start_low n tick there placed_low s

  -- in a plan that agrees before a row, its start is one too
  start_same : (more : List ℕ) (b tick : ℕ) → ((a : ℕ) → a < b → slice_index more a ≡ slice_index starts a) → IsStartBut cown rows starts b tick
      → IsStartBut cown rows more b tick
  start_same more b tick same s = record {
    spawned = λ a c. omega (arith, same a (parent_first a b c), s.spawned a c);
    in_order = λ a o. omega (arith, same a o.before, s.in_order a o);
    tight = elim s.tight [
      | inl z ↦ inl z
      | inr (inl (a, c, e)) ↦ inr (inl (a, c, omega (arith, same a (parent_first a b c), e)))
      | inr (inr (a, o, e)) ↦ inr (inr (a, o, omega (arith, same a o.before, e)))
    ];
  }

  -- one row more
  module _ (n tick : ℕ) (there : n < length rows) (p : ArePlacedBut cown rows starts n) (s : IsStartBut cown rows starts n tick) where
    pub agrees : (a : ℕ) → a < n → slice_index (starts ++ tick ∷ []) a ≡ slice_index starts a
    agrees a h = get_or_append_left starts (tick ∷ []) 0 a (omega (arith, h, p.whole))

    pub start_here : slice_index (starts ++ tick ∷ []) n ≡ tick
    start_here = get_or_push starts tick 0 n p.whole

    start_then : (b : ℕ) → b < n + 1 → IsStartBut cown rows (starts ++ tick ∷ []) b (start_of (starts ++ tick ∷ []) b)
    start_then b h = elim (cases_eq b n) [
      | inl e ↦ subst (λ (k : ℕ). IsStartBut cown rows (starts ++ tick ∷ []) k (start_of (starts ++ tick ∷ []) k)) (sym e)
          (rw start_here (start_same (starts ++ tick ∷ []) n tick agrees s))
      | inr ne ↦ (
          let below : b < n = omega arith in
          rw (agrees b below)
          (start_same (starts ++ tick ∷ []) b (start_of starts b) (λ a less. agrees a (omega (arith, less, below))) (p.at b below)))
    ]

    pub placed_more : ArePlacedBut cown rows (starts ++ tick ∷ []) (n + 1)
    placed_more = record { whole = omega (arith, length_push starts tick, p.whole); at = start_then }

    -- and the latest of the ends so far
    pub latest_agrees : (Has : ℕ → Type 0) (latest : ℕ) → IsLatestAmong rows starts Has n latest → IsLatestAmong rows (starts ++ tick ∷ []) Has n latest
    latest_agrees Has latest l = latest_same rows starts (starts ++ tick ∷ []) Has n latest agrees l

    pub end_here : (end : ℕ) → end ≡ tick + ticks_of rows n → end ≡ end_of rows (starts ++ tick ∷ []) n
    end_here end e = omega (arith, e, start_here)

-- a row that starts so was held up by each cown that it writes until that cown was free
module _ (cown : ℕ) (rows : List Row) (hr : IsRows rows) (starts : List ℕ) (n tick : ℕ) (there : n < length rows) (s : IsStartBut cown rows starts n tick) where
  waited_on : (c : ℕ) → Contains (written_of rows n) c → (of : List Row → ℕ → List ℕ)
      → ((a : ℕ) → a < n → Contains (of rows a) c → Contains (cowns_of rows a) c) → (ends : List ℕ) → AreHeldBut cown rows of starts n ends
      → slice_index ends c ≤ tick
  waited_on c writes of among ends held = elim (cases_eq c cown) [
    | inl same ↦ omega (arith, ap (slice_index ends) same, held.freed)
    | inr other ↦ elim (held.others c other).reached [
      | inl z ↦ omega (arith, z)
      | inr (a, before, has, e) ↦ omega (
        arith,
        e,
        s.in_order a
            (record {
              before = before;
              shared = (c, other, record { first = among a before has; second = writes_own rows hr n c there writes; wrote = inr writes });
            }),
      )
    ]
  ]

  pub has_waited : (end : ℕ) (held wrote : List ℕ) → tick ≤ end → AreHeldBut cown rows cowns_of starts n held → AreHeldBut cown rows written_of starts n wrote
      → HasWaited rows n end held wrote
  has_waited end held wrote later h w = record {
    held_before = λ c writes. omega (arith, later, waited_on c writes cowns_of (λ a before has. has) held h);
    wrote_before = λ c writes.
        omega (arith, later, waited_on c writes written_of (λ a before has. writes_own rows hr a c (omega (arith, before, there)) has) wrote w);
  }

-- once the ticks of a row's cowns are raised to its end, and the cown that orders nobody is free again
pub held_next : (cown : ℕ) (rows : List Row) (starts : List ℕ) (of : List Row → ℕ → List ℕ) (n end : ℕ) (old raised new : List ℕ) → end ≡ end_of rows starts n
    → AreRaised (Contains (of rows n)) end old raised → IsFreed cown raised new
    → ((c : ℕ) → c ≢ cown → IsLatestAmong rows starts (λ a. Contains (of rows a) c) n (slice_index old c))
    → AreHeldBut cown rows of starts (n + 1) new
held_next cown rows starts of n end old raised new is r free l = record {
  others = λ c other. rw (free.others c other)
      (latest_more rows starts (λ a. Contains (of rows a) c) n end (slice_index old c) (slice_index raised c) is (r.above c) (r.own c) (r.reached c)
      (l c other));
  freed = free.freed;
}

-- before the first row
pub placed_none : (rows : List Row) (placing : Placing) → length placing.starts.items ≡ 0 → length rows ≤ vec_capacity placing.starts
    → length placing.held.items ≡ MOST_COWNS → length placing.wrote.items ≡ MOST_COWNS
    → ((lane c : ℕ) → slice_index (in_lane lane placing.held.items) c ≡ 0) → ((lane c : ℕ) → slice_index (in_lane lane placing.wrote.items) c ≡ 0)
    → ((lane : ℕ) → lane < LANES → slice_index placing.latest lane ≡ 0) → placing.passed ≡ 0 → HasPlaced rows 0 placing
placed_none rows placing none enough held_whole wrote_whole unheld unwritten e passed = record {
  in_lanes = λ lane low. (
      let starts : List ℕ = in_lane lane placing.starts.items in
      record {
        placed = record { whole = lane_long lane placing.starts.items ∙ none; at = λ b h. absurd (omega (arith, h)) };
        held_is = record {
          others = λ c other. latest_none rows starts (λ a. Contains (cowns_of rows a) c) (slice_index (in_lane lane placing.held.items) c) (unheld lane c);
          freed = unheld lane (slice_index placing.cowns lane);
        };
        wrote_is = record {
          others = λ c other.
              latest_none rows starts (λ a. Contains (written_of rows a) c) (slice_index (in_lane lane placing.wrote.items) c) (unwritten lane c);
          freed = unwritten lane (slice_index placing.cowns lane);
        };
        latest_is = latest_none rows starts (λ a. a < length rows) (slice_index placing.latest lane) (e lane low);
      });
  enough = enough;
  held_whole = held_whole;
  wrote_whole = wrote_whole;
  passed_is = passed;
}

-- what placing a row does in one of the lanes
pub record IsNextIn (lane : ℕ) (rows : List Row) (n tick end : ℕ) (held wrote : List ℕ) (placing next : Placing) : Type 0 where
  pub start : IsStartBut (slice_index placing.cowns lane) rows (in_lane lane placing.starts.items) n tick
  pub end_is : end ≡ tick + ticks_of rows n
  pub starts_are : in_lane lane next.starts.items ≡ in_lane lane placing.starts.items ++ tick ∷ []
  pub cowns_stay : next.cowns ≡ placing.cowns
  pub held_raised : AreRaised (Contains (cowns_of rows n)) end (in_lane lane placing.held.items) held
  pub held_free : IsFreed (slice_index placing.cowns lane) held (in_lane lane next.held.items)
  pub wrote_raised : AreRaised (Contains (written_of rows n)) end (in_lane lane placing.wrote.items) wrote
  pub wrote_free : IsFreed (slice_index placing.cowns lane) wrote (in_lane lane next.wrote.items)
  pub latest_is : slice_index next.latest lane ≡ max end (slice_index placing.latest lane)

-- one row more
pub placed_next : (rows : List Row) → IsRows rows → (n lane tick end : ℕ) → n < length rows → (held wrote : List ℕ) (placing next : Placing)
    → IsPlacedIn lane rows n placing → IsNextIn lane rows n tick end held wrote placing next → IsPlacedIn lane rows (n + 1) next
placed_next rows hr n lane tick end there held wrote placing next p is =
    let cown : ℕ = slice_index placing.cowns lane in
    let starts : List ℕ = in_lane lane placing.starts.items in
    let more : List ℕ = starts ++ tick ∷ [] in
    let ends : end ≡ end_of rows more n = end_here cown rows hr starts n tick there p.placed is.start end is.end_is in
    let agree = latest_agrees cown rows hr starts n tick there p.placed is.start in
    record {
      placed = rw (is.cowns_stay, is.starts_are) (placed_more cown rows hr starts n tick there p.placed is.start);
      held_is = rw (is.cowns_stay, is.starts_are) (held_next cown rows more cowns_of n end (in_lane lane placing.held.items) held
          (in_lane lane next.held.items) ends is.held_raised is.held_free
          (λ c other. agree (λ a. Contains (cowns_of rows a) c) (slice_index (in_lane lane placing.held.items) c) (p.held_is.others c other)));
      wrote_is = rw (is.cowns_stay, is.starts_are) (held_next cown rows more written_of n end (in_lane lane placing.wrote.items) wrote
          (in_lane lane next.wrote.items) ends is.wrote_raised is.wrote_free
          (λ c other. agree (λ a. Contains (written_of rows a) c) (slice_index (in_lane lane placing.wrote.items) c) (p.wrote_is.others c other)));
      latest_is = rw is.starts_are (latest_all rows more n end (slice_index placing.latest lane) (slice_index next.latest lane) there ends is.latest_is
          (agree (λ a. a < length rows) (slice_index placing.latest lane) p.latest_is));
    }

-- ---- what rows wrote

module _ (rows : List Row) where
  before_more : (n : ℕ) → n < length rows → cowns_before rows (n + 1) ≡ cowns_before rows n + length (cowns_of rows n)
  before_more n there = more rows n there
    where
      more : (list : List Row) (n : ℕ) → n < length list → cowns_before list (n + 1) ≡ cowns_before list n + length (cowns_of list n)
      more [] n there = absurd (omega (arith, there))
      more (x ∷ xs) n there =
          let f : Row → ℕ = λ (y : Row). length y.cowns.items in
          let here : slice_get (x ∷ xs) n ≡ Some (get_or (x ∷ xs) n x) = slice_get-get_or (x ∷ xs) n x there in
          let cowns : length (cowns_of (x ∷ xs) n) ≡ f (get_or (x ∷ xs) n x) = rw here refl in
          omega (arith, cowns, sum_by_more f (x ∷ xs) n x there)

  before_le : (d a b : ℕ) → a + d ≡ b → b ≤ length rows → cowns_before rows a ≤ cowns_before rows b
  before_le zero a b e there =
      let same : a ≡ b = omega (arith, e) in
      subst (λ (k : ℕ). cowns_before rows a ≤ cowns_before rows k) same (omega arith)
  before_le (suc d) a b e there =
      let same : a + d + 1 ≡ b = omega (arith, e) in
      let step = before_more (a + d) (omega (arith, e, there)) in
      let low = before_le d a (a + d) refl (omega (arith, e, there)) in
      subst (λ (k : ℕ). cowns_before rows a ≤ cowns_before rows k) same (omega (arith, step, low))

  -- the cowns of a row stand before those of the rows behind it
  place_below : (r p n : ℕ) → r < n → n ≤ length rows → p < length (cowns_of rows r) → cowns_before rows r + p < cowns_before rows n
  place_below r p n h there small =
      let up = before_le (n - (r + 1)) (r + 1) n (omega (arith, h)) there in
      omega (arith, up, before_more r (omega (arith, h, there)), small)

  pub none_told : (written : List Bool) → written ≡ [] → TellWritten rows 0 written
  none_told written e = rw e (record { whole = refl; at = λ r p h. absurd (omega (arith, h)) })

  -- of row r the first i cowns are told
  pub record SomeTold (r i : ℕ) (written : List Bool) : Type 0 where
    pub whole : length written ≡ cowns_before rows r + i
    pub at : (q p : ℕ) → q < r → p < length (cowns_of rows q)
        → IsTrue (slice_index_or written (cowns_before rows q + p) false) ↔ Contains (written_of rows q) (slice_index (cowns_of rows q) p)
    pub own : (p : ℕ) → p < i
        → IsTrue (slice_index_or written (cowns_before rows r + p) false) ↔ Contains (written_of rows r) (slice_index (cowns_of rows r) p)

  pub told_none : (r : ℕ) (written : List Bool) → TellWritten rows r written → SomeTold r 0 written
  told_none r written t = record { whole = omega (arith, t.whole); at = t.at; own = λ p h. absurd (omega (arith, h)) }

  pub told_more : (r i : ℕ) (written : List Bool) (b : Bool) → r < length rows → SomeTold r i written
      → (IsTrue b ↔ Contains (written_of rows r) (slice_index (cowns_of rows r) i)) → SomeTold r (i + 1) (written ++ b ∷ [])
  told_more r i written b there t tells = record {
    whole = omega (arith, length_push written b, t.whole);
    at = λ q p h small. (
        let below : cowns_before rows q + p < length written = omega (arith, place_below q p r h (omega (arith, there)) small, t.whole) in
        subst (λ (x : Bool). IsTrue x ↔ Contains (written_of rows q) (slice_index (cowns_of rows q) p))
        (sym (get_or_append_left written (b ∷ []) false (cowns_before rows q + p) below)) (t.at q p h small));
    own = λ p h. elim (cases_eq p i) [
      | inl e ↦ (
          let here : slice_index_or (written ++ b ∷ []) (cowns_before rows r + i) false ≡ b =
          get_or_push written b false (cowns_before rows r + i) t.whole in
          subst (λ (k : ℕ). IsTrue (slice_index_or (written ++ b ∷ []) (cowns_before rows r + k) false)
          ↔ Contains (written_of rows r) (slice_index (cowns_of rows r) k)) (sym e)
          (subst (λ (x : Bool). IsTrue x ↔ Contains (written_of rows r) (slice_index (cowns_of rows r) i)) (sym here) tells))
      | inr ne ↦ (
          let below : p < i = omega arith in
          subst (λ (x : Bool). IsTrue x ↔ Contains (written_of rows r) (slice_index (cowns_of rows r) p))
          (sym (get_or_append_left written (b ∷ []) false (cowns_before rows r + p) (omega (arith, below, t.whole)))) (t.own p below))
    ];
  }

  pub told_all : (r i : ℕ) (written : List Bool) → r < length rows → i ≡ length (cowns_of rows r) → SomeTold r i written → TellWritten rows (r + 1) written
  told_all r i written there all t = record {
    whole = omega (arith, t.whole, all, before_more r there);
    at = λ q p h small. elim (cases_eq q r) [
      | inl e ↦ (
          let mine : p < length (cowns_of rows r) = subst (λ (k : ℕ). p < length (cowns_of rows k)) e small in
          subst (λ (k : ℕ). IsTrue (slice_index_or written (cowns_before rows k + p) false)
          ↔ Contains (written_of rows k) (slice_index (cowns_of rows k) p)) (sym e) (t.own p (omega (arith, mine, all))))
      | inr ne ↦ t.at q p (omega arith) small
    ];
  }

  -- what is told from a row on begins with what is told of that row
  pub told_from : (r passed : ℕ) (written own : List Bool) → r < length rows → TellWritten rows (length rows) written → passed ≡ cowns_before rows r
      → own ≡ take (length written - passed) (drop passed written) → TellsWritten rows r own
  told_from r passed written own there t is from =
      let whole : take (length written - passed) (drop passed written) ≡ drop passed written =
      take_all (length written - passed) (drop passed written) (omega (arith, length-drop passed written)) in
      rw (from, whole, is) (record {
        enough = (
            let up = before_le (length rows - (r + 1)) (r + 1) (length rows) (omega (arith, there)) (omega arith) in
            omega (arith, length-drop (cowns_before rows r) written, t.whole, up, before_more r there));
        at = λ p small. subst (λ (x : Bool). IsTrue x ↔ Contains (written_of rows r) (slice_index (cowns_of rows r) p))
            (sym (get_or-drop (cowns_before rows r) written p false)) (t.at r p there small);
      })

  pub passed_next : (r passed more : ℕ) → r < length rows → passed ≡ cowns_before rows r → more ≡ length (cowns_of rows r)
      → passed + more ≡ cowns_before rows (r + 1)
  passed_next r passed more there is own = omega (arith, is, own, before_more r there)

  pub passed_low : (r passed : ℕ) (written : List Bool) → r ≤ length rows → TellWritten rows (length rows) written → passed ≡ cowns_before rows r
      → passed ≤ length written
  passed_low r passed written there t is =
      let up = before_le (length rows - r) r (length rows) (omega (arith, there)) (omega arith) in
      omega (arith, is, t.whole, up)

-- ---- the rows without the cown

module _ (cown : ℕ) (rows : List Row) where
  still_ordered : (a b : ℕ) → OrderedBut cown rows a b → Ordered (without cown rows) a b
  still_ordered a b o =
      let c : ℕ = o.shared.0 in
      let on = o.shared.2 in
      record {
        before = o.before;
        shared = (
          c,
          record {
            first = rw (cowns_of-without cown rows a) (kept cown (cowns_of rows a) c o.shared.1 on.first);
            second = rw (cowns_of-without cown rows b) (kept cown (cowns_of rows b) c o.shared.1 on.second);
            wrote = elim on.wrote [
              | inl w ↦ inl (rw (written_of-without cown rows a) (kept cown (written_of rows a) c o.shared.1 w))
              | inr w ↦ inr (rw (written_of-without cown rows b) (kept cown (written_of rows b) c o.shared.1 w))
            ];
          },
        );
      }

  was_ordered : (a b : ℕ) → Ordered (without cown rows) a b → OrderedBut cown rows a b
  was_ordered a b o =
      let c : ℕ = o.shared.0 in
      let on = o.shared.1 in
      let first = was cown (cowns_of rows a) c (rw (cowns_of-without cown rows a) at on.first) in
      let second = was cown (cowns_of rows b) c (rw (cowns_of-without cown rows b) at on.second) in
      record {
        before = o.before;
        shared = (
          c,
          first.0,
          record {
            first = first.1;
            second = second.1;
            wrote = elim on.wrote [
              | inl w ↦ inl (was cown (written_of rows a) c (rw (written_of-without cown rows a) at w)).1
              | inr w ↦ inr (was cown (written_of rows b) c (rw (written_of-without cown rows b) at w)).1
            ];
          },
        );
      }

  still_child : (a b : ℕ) → IsChild rows a b → IsChild (without cown rows) a b
  still_child a b c = record {
    not_main = c.not_main;
    there = omega (arith, c.there, length-without cown rows);
    parent = parent_of-without cown rows b ∙ c.parent;
  }

  was_child : (a b : ℕ) → IsChild (without cown rows) a b → IsChild rows a b
  was_child a b c = record {
    not_main = c.not_main;
    there = omega (arith, c.there, length-without cown rows);
    parent = sym (parent_of-without cown rows b) ∙ c.parent;
  }

  module _ (hr : IsRows rows) (starts : List ℕ) (p : ArePlacedBut cown rows starts (length rows)) where
    keeps : Keeps (without cown rows) starts
    keeps = record {
      whole = p.whole ∙ sym (length-without cown rows);
      spawned = λ a b c. (let d = was_child a b c in omega (arith, offset_of-without cown rows b, (p.at b d.there).spawned a d));
      in_order = λ a b there o.
          omega (arith, ticks_of-without cown rows a, (p.at b (omega (arith, there, length-without cown rows))).in_order a (was_ordered a b o));
    }

    -- no plan that keeps starts a row sooner
    by_tight : (other : List ℕ) → Keeps (without cown rows) other → (b : ℕ) → b < length rows
        → ((a : ℕ) → a < b → start_of starts a ≤ start_of other a) → start_of starts b ≤ start_of other b
    by_tight other k b there before = elim (p.at b there).tight [
      | inl z ↦ omega (arith, z)
      | inr (inl (a, c, e)) ↦
          omega (arith, e, before a (parent_first cown rows hr starts a b c), offset_of-without cown rows b, k.spawned a b (still_child a b c))
      | inr (inr (a, o, e)) ↦ omega (
        arith,
        e,
        before a o.before,
        ticks_of-without cown rows a,
        k.in_order a b (omega (arith, there, length-without cown rows)) (still_ordered a b o),
      )
    ]

    least_below : (other : List ℕ) → Keeps (without cown rows) other → (n b : ℕ) → b < n → b < length rows → start_of starts b ≤ start_of other b
    least_below other k zero b h there = absurd (omega (arith, h))
    least_below other k (suc n) b h there =
        by_tight other k b there (λ a less. least_below other k n a (omega (arith, h, less)) (omega (arith, there, less)))

    earliest : IsEarliest (without cown rows) starts
    earliest = record {
      keeps = keeps;
      least = λ other k b there. least_below other k (suc b) b (omega arith) (omega (arith, there, length-without cown rows));
    }

    end_is : (r : ℕ) → end_of (without cown rows) starts r ≡ end_of rows starts r
    end_is r = omega (arith, ticks_of-without cown rows r)

    pub span_is : (latest : ℕ) → IsLatestAmong rows starts (λ a. a < length rows) (length rows) latest → IsSpan (without cown rows) latest
    span_is latest l = record {
      plan = starts;
      earliest = earliest;
      ends = record {
        none_later = λ r there. (
            let h : r < length rows = omega (arith, there, length-without cown rows) in
            omega (arith, end_is r, l.above r h h));
        reached = elim l.reached [
          | inl z ↦ absurd (omega (arith, z, l.above 0 hr.not_empty hr.not_empty, hr.ticks_low 0 hr.not_empty))
          | inr (a, h, there, e) ↦ (a, omega (arith, h, length-without cown rows), end_is a ∙ e)
        ];
      };
    }
