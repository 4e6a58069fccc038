-- One more row gets its place.
use Rattle.std.proofs.Common.{◌≡◌, ℕ, zero, suc, ◌+◌, ◌*◌, ◌<◌, ◌≤◌, ◌⊎◌, Bool, true, false, List, [], ◌∷◌, ◌++◌, length, Option, Some, None, refl, sym, ap}
use Rattle.std.proofs.Common.{◌∙◌, subst, inl, inr, arith}
use Rattle.boc_program.specs.declared.limits.TheConstants.{MOST_TICKS}
use Rattle.std.specs.Prelude.{slice_index, slice_index_or, nat_lt, MatchOption}
use Rattle.std.specs.List.{Contains}
use Rattle.std.proofs.lemmas.Bool.{cases_lt, cases_eq}
use Rattle.std.proofs.lemmas.List.{get_or_append_left, get_or_push, length_push}
use Rattle.boc_runs.specs.declared.rows.Row.{Row}
use Rattle.boc_runs.specs.Rows.{IsRows, parent_of, offset_of, ticks_of, cowns_of, written_of}
use Rattle.boc_plans.specs.Plans.{start_of, end_of, IsChild, ConflictOn, Ordered}
use Rattle.boc_plans.specs.Chains.{IsSpawnTight, IsOrderTight}
use Rattle.boc_order.specs.declared.latest.Latest.{Latest}
use Rattle.boc_order.specs.Latest.{IsLatestOf}
use Rattle.boc_order.specs.Placed.{placement, IsTight, Placed, ArePlaced}
use Rattle.boc_order.specs.Waits.{HasWaits}
use Rattle.boc_order.proofs.Near.{near_complete, near_ordered}
use Rattle.boc_order.proofs.Remembering.{some_latest}

-- what the placement of row n says, ends being those of the rows before it
pub record Waits (rows : List Row) (ends : List ℕ) (n spawned at : ℕ) (waits_for : Option ℕ) : Type 0 where
  pub spawned_then : spawned ≤ at
  pub in_order : (a : ℕ) → Ordered rows a n → slice_index ends a ≤ at
  pub tight : MatchOption waits_for (at ≡ spawned)
      (λ a. (spawned < at) × Ordered rows a n × (slice_index ends a ≡ at) × ((o : ℕ) → Ordered rows o n → slice_index ends o ≡ at → a ≤ o))

pub placement_waits : (rows : List Row) (ends : List ℕ) (n spawned : ℕ) (best : Latest) →
    IsLatestOf (λ a. Ordered rows a n) (slice_index ends) best →
    Waits rows ends n spawned (placement spawned best).0 (placement spawned best).1
placement_waits rows ends n spawned last p = go (nat_lt spawned last.end) refl
  where
    go : (b : Bool) → nat_lt spawned last.end ≡ b →
        Waits rows ends n spawned (placement spawned last).0 (placement spawned last).1
    go true e = rw e (let h : spawned < last.end = grind (arith) in
        let l = p.some (omega arith) in record {
          spawned_then = omega arith;
          in_order = l.latest;
          tight = (h, l.member, l.ends_then, l.least);
        })
    go false e = rw e (let h : last.end ≤ spawned = grind (arith) in record {
      spawned_then = omega arith;
      in_order = λ a o. omega (arith, h, (some_latest _ _ last p a o).latest a o);
      tight = refl;
    })

-- the same values below n
abbrev pub Agrees : List ℕ → List ℕ → ℕ → Type 0
Agrees xs ys n = (r : ℕ) → r < n → slice_index ys r ≡ slice_index xs r

pub Agrees-push : (xs : List ℕ) (x n : ℕ) → length xs ≡ n → Agrees xs (xs ++ x ∷ []) n
Agrees-push xs x n l r h = get_or_append_left xs (x ∷ []) 0 r (omega arith)

-- the same rows but for the ticks and the offsets of row n and those after it
pub record AreSameBefore (n : ℕ) (rows others : List Row) : Type 0 where
  pub len : length others ≡ length rows
  pub parents : (r : ℕ) → parent_of others r ≡ parent_of rows r
  pub offsets : (r : ℕ) → r < n → offset_of others r ≡ offset_of rows r
  pub cowns : (r : ℕ) → cowns_of others r ≡ cowns_of rows r
  pub written : (r : ℕ) → written_of others r ≡ written_of rows r
  pub ticks : (r : ℕ) → r < n → ticks_of others r ≡ ticks_of rows r

same_rows : (n : ℕ) (rows : List Row) → AreSameBefore n rows rows
same_rows n rows = record { len = refl; parents = λ r. refl; offsets = λ r h. refl; cowns = λ r. refl; written = λ r. refl; ticks = λ r h. refl }

pub same_back : (n : ℕ) (rows others : List Row) → AreSameBefore n rows others → AreSameBefore n others rows
same_back n rows others s = record {
  len = sym s.len;
  parents = λ r. sym (s.parents r);
  offsets = λ r h. sym (s.offsets r h);
  cowns = λ r. sym (s.cowns r);
  written = λ r. sym (s.written r);
  ticks = λ r h. sym (s.ticks r h);
}

-- such rows have the same children and orders, and what was tight below n, in a plan that agrees there, is tight
module _ (n : ℕ) (rows others : List Row) (s : AreSameBefore n rows others) where
  child_same : (a b : ℕ) → IsChild others a b → IsChild rows a b
  child_same a b c = record { not_main = c.not_main; there = omega (arith, s.len, c.there); parent = sym (s.parents b) ∙ c.parent }

  pub conflict_same : (c a b : ℕ) → ConflictOn others c a b → ConflictOn rows c a b
  conflict_same c a b o = record { first = rw (s.cowns a) at o.first; second = rw (s.cowns b) at o.second; wrote = rw (s.written a, s.written b) at o.wrote }

  ordered_same : (a b : ℕ) → Ordered others a b → Ordered rows a b
  ordered_same a b o = record { before = o.before; shared = (o.shared.0, conflict_same o.shared.0 a b o.shared.1) }

  module _ (starts starts' : List ℕ) (agree : Agrees starts starts' n) (b : ℕ) (h : b < n) where
    spawn_tight : ((a : ℕ) → IsChild rows a b → a < b) → IsSpawnTight others starts' b → IsSpawnTight rows starts b
    spawn_tight before (a, child, e) =
        let c = child_same a b child in
        (a, c, omega (arith, agree a (omega (arith, before a c, h)), agree b h, s.offsets b h, e))

    order_tight : (a : ℕ) → IsOrderTight others starts' a b → IsOrderTight rows starts a b
    order_tight a (o, e) = (ordered_same a b o, omega (arith, agree a (omega (arith, o.before, h)), agree b h, s.ticks a (omega (arith, o.before, h)), e))

-- a placed row stays placed, in a plan that agrees, among rows that are the same
module _ (n : ℕ) (rows others : List Row) (s : AreSameBefore n rows others) (hr : IsRows rows) (starts starts' ends ends' : List ℕ)
    (agree : Agrees starts starts' n) (agree_ends : Agrees ends ends' n) (b : ℕ) (h : b < n) where
  back : AreSameBefore n others rows
  back = same_back n rows others s

  agree_back : Agrees starts' starts n
  agree_back r l = sym (agree r l)

  before : (a : ℕ) → IsChild rows a b → a < b
  before a c = omega (arith, hr.parent_before b c.not_main c.there, c.parent)

  still_tight : (w : Option ℕ) → IsTight rows starts b w → IsTight others starts' b w
  still_tight None p = spawn_tight n others rows back starts' starts agree_back b h (λ a c. before a (child_same n rows others s a b c)) p
  still_tight (Some a) p = (
    λ t. p.0 (spawn_tight n rows others s starts starts' agree b h before t),
    order_tight n others rows back starts' starts agree_back b h a p.1,
    λ o t. p.2 o (order_tight n rows others s starts starts' agree b h o t),
  )

  pub still_placed : (w : Option ℕ) → Placed rows starts ends w b → Placed others starts' ends' w b
  still_placed w p = record {
    main = λ e. omega (arith, p.main e, agree b h);
    ends_then = omega (arith, p.ends_then, agree b h, agree_ends b h, s.ticks b h);
    low = omega (arith, p.low, agree_ends b h);
    spawned = λ a child. (let c = child_same n rows others s a b child in
        omega (arith, s.offsets b h, p.spawned a c, agree a (omega (arith, before a c, h)), agree b h));
    in_order = λ a o. omega (
      arith,
      s.ticks a (omega (arith, o.before, h)),
      p.in_order a (ordered_same n rows others s a b o),
      agree a
          (omega (arith, o.before, h)),
      agree b h,
    );
    tight = λ k. still_tight w (p.tight k);
  }

-- the next row
module _ (rows : List Row) (hr : IsRows rows) (starts ends : List ℕ) (after : List (Option ℕ)) (n : ℕ) (there : n < length rows)
    (done : ArePlaced rows starts ends after n) (spawned at : ℕ) (waits_for : Option ℕ) where
  -- the tick at which row n is spawned
  pub record Spawned : Type 0 where
    pub main : n ≡ 0 → spawned ≡ 0
    pub child : 0 < n → spawned ≡ start_of starts (parent_of rows n) + offset_of rows n

  module _ (sp : Spawned) (w : Waits rows ends n spawned at waits_for) where
    agree : Agrees starts (starts ++ at ∷ []) n
    agree = Agrees-push starts at n done.starts_len

    agree_ends : Agrees ends (ends ++ (at + ticks_of rows n) ∷ []) n
    agree_ends = Agrees-push ends (at + ticks_of rows n) n done.ends_len

    here : slice_index (starts ++ at ∷ []) n ≡ at
    here = get_or_push starts at 0 n done.starts_len

    here_ends : slice_index (ends ++ (at + ticks_of rows n) ∷ []) n ≡ at + ticks_of rows n
    here_ends = get_or_push ends (at + ticks_of rows n) 0 n done.ends_len

    pub spawned_low : spawned ≤ n * MOST_TICKS
    spawned_low = elim (cases_eq n 0) [
      | inl e ↦ omega (arith, sp.main e)
      | inr ne ↦ (
          let above : 0 < n = omega arith in
          let before : parent_of rows n < n = hr.parent_before n above there in
          let p = done.placed (parent_of rows n) before in
          omega (arith, sp.child above, p.low, p.ends_then, hr.ticks_cover n above there))
    ]

    at_low_by : (o : Option ℕ) → MatchOption o (at ≡ spawned)
        (λ a. (spawned < at) × Ordered rows a n × (slice_index ends a ≡ at) × ((o : ℕ) → Ordered rows o n → slice_index ends o ≡ at → a ≤ o))
        → at ≤ n * MOST_TICKS
    at_low_by None t = omega (arith, t, spawned_low)
    at_low_by (Some a) t =
        let before : a < n = t.1.before in
        omega (arith, (done.placed a before).low, t.2)

    pub at_low : at ≤ n * MOST_TICKS
    at_low = at_low_by waits_for w.tight

    end_same : (a : ℕ) → a < n → end_of rows (starts ++ at ∷ []) a ≡ slice_index ends a
    end_same a h = omega (arith, agree a h, (done.placed a h).ends_then)

    tight_by : (o : Option ℕ) → 0 < n → MatchOption o (at ≡ spawned)
        (λ a. (spawned < at) × Ordered rows a n × (slice_index ends a ≡ at) × ((o : ℕ) → Ordered rows o n → slice_index ends o ≡ at → a ≤ o)) →
        IsTight rows (starts ++ at ∷ []) n o
    tight_by None above t =
        let before : parent_of rows n < n = hr.parent_before n above there in (
          parent_of rows n,
          record { not_main = above; there = there; parent = refl },
          omega (arith, agree (parent_of rows n) before, here, sp.child above, t),
        )
    tight_by (Some a) above t =
        let before : parent_of rows n < n = hr.parent_before n above there in (
          λ s. (
              let same : slice_index (starts ++ at ∷ []) s.0 ≡ slice_index starts s.0 = agree s.0 (omega (arith, s.1.parent)) in
              let at_parent : slice_index starts s.0 ≡ slice_index starts (parent_of rows n) = ap (slice_index starts) (sym s.1.parent) in
              omega (arith, s.2, here, sp.child above, t.0)),
          (t.1, omega (arith, end_same a t.1.before, here, t.2)),
          λ other h. t.3 other h.0 (omega (arith, end_same other h.0.before, here, h.1)),
        )

    pub next_placed : Placed rows (starts ++ at ∷ []) (ends ++ (at + ticks_of rows n) ∷ []) waits_for n
    next_placed = record {
      main = λ e. omega (arith, here, at_low);
      ends_then = omega (arith, here, here_ends);
      low = omega (arith, here_ends, at_low, hr.ticks_high n there);
      spawned = λ a child.
          (let above : 0 < n = child.not_main in
          let before : parent_of rows n < n = hr.parent_before n above there in
          let same : slice_index (starts ++ at ∷ []) a ≡ slice_index starts a = agree a (omega (arith, child.parent)) in
          let at_parent : slice_index starts a ≡ slice_index starts (parent_of rows n) = ap (slice_index starts) (sym child.parent) in
          omega (arith, here, sp.child above, w.spawned_then));
      in_order = λ a o. omega (arith, here, end_same a o.before, w.in_order a o);
      tight = λ k. tight_by waits_for k w.tight;
    }

    placed_by : (b : ℕ) → (b < n) ⊎ (b ≡ n) →
        Placed rows (starts ++ at ∷ []) (ends ++ (at + ticks_of rows n) ∷ []) (slice_index_or (after ++ waits_for ∷ []) b None) b
    placed_by b (inl h) =
        let same : slice_index_or (after ++ waits_for ∷ []) b None ≡ slice_index_or after b None =
        get_or_append_left after (waits_for ∷ []) None b (omega (arith, done.after_len)) in
        rw same (still_placed n rows rows (same_rows n rows) hr starts (starts ++ at ∷ []) ends (ends ++ (at + ticks_of rows n) ∷ []) agree agree_ends
        b h (slice_index_or after b None) (done.placed b h))
    placed_by b (inr e) =
        subst (λ (x : ℕ). Placed rows (starts ++ at ∷ []) (ends ++ (at + ticks_of rows n) ∷ []) (slice_index_or (after ++ waits_for ∷ []) x None) x) (sym e)
        (let same : slice_index_or (after ++ waits_for ∷ []) n None ≡ waits_for = get_or_push after waits_for None n done.after_len in
        rw same next_placed)

    pub more_placed : ArePlaced rows (starts ++ at ∷ []) (ends ++ (at + ticks_of rows n) ∷ []) (after ++ waits_for ∷ []) (n + 1)
    more_placed = record {
      starts_len = omega (arith, length_push starts at, done.starts_len);
      ends_len = omega (arith, length_push ends (at + ticks_of rows n), done.ends_len);
      after_len = omega (arith, length_push after waits_for, done.after_len);
      placed = λ b h. placed_by b (elim (cases_lt b n) [ inl l ↦ inl l | inr g ↦ inr (omega arith) ]);
    }

-- all of it, for a row that waits for these
module _ (rows : List Row) (hr : IsRows rows) (starts ends : List ℕ) (after : List (Option ℕ)) (n : ℕ) (done : ArePlaced rows starts ends after n)
    (there : n < length rows) (waits : List ℕ) (has : HasWaits rows n waits) where
  pub wait_there : (a : ℕ) → Contains waits a → a < length ends
  wait_there a k = (let near = has.sound a k in omega (arith, near.near.before, done.ends_len))

  late : (a : ℕ) → a < n → 0 < slice_index ends a
  late a h = omega (arith, (done.placed a h).ends_then, hr.ticks_low a (omega (arith, h, there)))

  pub all_late : (a : ℕ) → a < length ends → 0 < slice_index ends a
  all_late a h = late a (omega (arith, h, done.ends_len))

  -- the latest of those is the latest of all rows that are ordered before it
  module _ (best : Latest) (q : IsLatestOf (λ a. Contains waits a) (slice_index ends) best) where
    -- a row in between starts at its end or later
    past : (a k : ℕ) → Ordered rows a k → k < n → slice_index ends a < slice_index ends k
    past a k o h =
        let p = done.placed k h in
        omega (arith, p.in_order a o, p.ends_then, (done.placed a (omega (arith, o.before, h))).ends_then, hr.ticks_low k (omega (arith, h, there)))

    before_low : (d a : ℕ) → n ≤ a + d → Ordered rows a n → slice_index ends a ≤ best.end
    before_low zero a h o = absurd (omega (arith, h, o.before))
    before_low (suc d) a h o = elim (near_complete rows a n there o) [
      | inl near ↦ (some_latest _ _ best q a (has.complete a near)).latest a (has.complete a near)
      | inr (k, first, second) ↦ (
          let up : slice_index ends k ≤ best.end = before_low d k (omega (arith, h, first.before)) second in
          omega (arith, past a k first second.before, up))
    ]

    low : (a : ℕ) → Ordered rows a n → slice_index ends a ≤ best.end
    low a o = before_low n a (omega arith) o

    tight_near : (a : ℕ) → Ordered rows a n → slice_index ends a ≡ best.end → Contains waits a
    tight_near a o e = elim (near_complete rows a n there o) [
      | inl near ↦ has.complete a near
      | inr (k, first, second) ↦ absurd (omega (arith, e, past a k first second.before, low k second))
    ]

    ordered_latest : IsLatestOf (λ a. Ordered rows a n) (slice_index ends) best
    ordered_latest = record {
      none = λ e a o. omega (arith, e, low a o, late a o.before);
      some = λ l.
          (let p = q.some l in record {
            member = near_ordered rows best.row n (has.sound best.row p.member);
            ends_then = p.ends_then;
            latest = low;
            least = λ a o e. p.least a (tight_near a o e) e;
          });
    }

    module _ (spawned : ℕ) (main : n ≡ 0 → spawned ≡ 0) (child : 0 < n → spawned ≡ slice_index starts (parent_of rows n) + offset_of rows n)
        (place : ℕ × Option ℕ) (is : place ≡ placement spawned best) where
      sp : Spawned rows hr starts ends after n there done spawned place.0 place.1
      sp = record { main = main; child = child }

      placed_waits : Waits rows ends n spawned place.0 place.1
      placed_waits = rw is (placement_waits rows ends n spawned best ordered_latest)

      pub place_placed : ArePlaced rows (starts ++ place.0 ∷ []) (ends ++ (place.0 + ticks_of rows n) ∷ []) (after ++ place.1 ∷ []) (n + 1)
      place_placed = more_placed rows hr starts ends after n there done spawned place.0 place.1 sp placed_waits

-- before the first row
pub placed_none : (rows : List Row) (starts ends : List ℕ) (after : List (Option ℕ)) → starts ≡ [] → ends ≡ [] → after ≡ [] → ArePlaced rows starts ends after 0
placed_none rows starts ends after p q r = rw (p, q, r) (record {
  starts_len = refl;
  ends_len = refl;
  after_len = refl;
  placed = λ b h. absurd (omega (arith, h));
})
