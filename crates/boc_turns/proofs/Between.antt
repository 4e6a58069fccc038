-- The end lies between that of the rows without the relaxed cowns and the span.
use Rattle.std.proofs.Common.{◌≡◌, ◌≢◌, inl, inr, ℕ, ◌+◌, ◌-◌, ◌<◌, ◌≤◌, Bool, true, false, true≢false, cond, List, [], ◌∷◌, length, map}
use Rattle.std.proofs.Common.{Option, Some, None, refl, sym, ap, ◌∙◌, subst, arith}
use Rattle.std.specs.Prelude.{nat_eq}
use Rattle.std.specs.List.{range_with_len}
use Rattle.std.proofs.lemmas.Bool.Decides.{nat_tests}
use Rattle.std.proofs.lemmas.List.{length-map}
use Rattle.std.proofs.lemmas.List.FromFn.{length-range_with_len, get_or-map-range_with_len}
use Rattle.boc_runs.specs.declared.rows.Row.{Row}
use Rattle.boc_runs.specs.Rows.{IsRows, parent_of, offset_of, ticks_of}
use Rattle.boc_runs.proofs.Freeing.{length-without, parent_of-without, offset_of-without, ticks_of-without}
use Rattle.boc_plans.specs.Plans.{start_of, IsChild, ConflictOn, Keeps, IsEnd}
use Rattle.boc_plans.specs.Greedy.{IsSpan}
use Rattle.boc_order.proofs.LeftOut.{was_conflict}
use Rattle.boc_uses.specs.declared.uses.Use.{Use}
use Rattle.boc_turns.specs.Turns.{use_of, AreUses, Times, over, KeepsTurn, KeepsTurns, IsOverBy, AreOverBy, IsUsedEnd, among}
use Rattle.boc_turns.specs.Turns.{without_all, AreWithin}
use Rattle.boc_turns.proofs.Least.{over_cases, made_more, none_end_sooner}

-- ---- more cowns are relaxed

-- the tick of the first use, if there is one
abbrev first_of : Option Use → ℕ
first_of None = 0
first_of (Some u) = u.first

module _ (rows : List Row) (uses : List (Option Use)) (are : AreUses rows uses) (relaxed others : ℕ → Bool) (more : AreWithin relaxed others) (times : Times)
    (keeps : KeepsTurns rows uses relaxed times) where
  -- the same times; a turn at a cown that was not relaxed begins with the tick of its first use
  abbrev spread : Times
  spread = record {
    made = times.made;
    begun = λ r c. cond (relaxed c) (times.begun r c) (times.made r (first_of (use_of rows uses r c)) - 1);
  }

  begun_same : (r c : ℕ) → relaxed c ≡ true → spread.begun r c ≡ times.begun r c
  begun_same r c e = rw e

  begun_first : (r c : ℕ) (u : Use) → relaxed c ≡ false → use_of rows uses r c ≡ Some u → spread.begun r c ≡ times.made r u.first - 1
  begun_first r c u e is = rw (e, is)

  over_same : (r c : ℕ) (u : Use) → relaxed c ≡ true → over spread r c u ≡ over times r c u
  over_same r c u e = ap (λ (tick : ℕ). cond u.needed (times.made r u.last) (tick + (u.last + 1 - u.first))) (begun_same r c e)

  -- a turn at such a cown lies between its row's start and end
  over_late : (r c : ℕ) (u : Use) → r < length rows → relaxed c ≡ false → use_of rows uses r c ≡ Some u → over spread r c u ≤ times.made r (ticks_of rows r)
  over_late r c u there e is =
      let within = are.within r c u is in
      let row = keeps r there in
      let begun = begun_first r c u e is in
      let first = made_more rows uses relaxed times r row u.first 0 u.first (omega arith) (omega (arith, within.rises, within.ends)) in
      let last = made_more rows uses relaxed times r row (u.last - u.first) u.first u.last (omega (arith, within.rises)) within.ends in
      let end = made_more rows uses relaxed times r row (ticks_of rows r - u.last) u.last (ticks_of rows r) (omega (arith, within.ends)) (omega arith) in
      elim (over_cases spread r c u) [
        | inl (need, over) ↦ omega (arith, over, end)
        | inr (none, over) ↦ omega (arith, over, begun, first, last, end, within.from_one, within.rises)
      ]

  turn_same : (r c : ℕ) (u : Use) → relaxed c ≡ true → KeepsTurn rows uses times r c u → KeepsTurn rows uses spread r c u
  turn_same r c u e t =
      let begun = begun_same r c e in
      record {
        after = λ a v before conflict is. omega (arith, begun, over_same a c v e, t.after a v before conflict is);
        from_first = omega (arith, begun, t.from_first);
        waits = λ need. omega (arith, begun, t.waits need);
      }

  turn_new : (r c : ℕ) (u : Use) → r < length rows → relaxed c ≡ false → use_of rows uses r c ≡ Some u → KeepsTurn rows uses spread r c u
  turn_new r c u there e is =
      let within = are.within r c u is in
      let row = keeps r there in
      let begun = begun_first r c u e is in
      let first = made_more rows uses relaxed times r row u.first 0 u.first (omega arith) (omega (arith, within.rises, within.ends)) in
      record {
        after = λ a v before conflict use_is. omega (
          arith,
          begun,
          first,
          within.from_one,
          over_late a c v (omega (arith, before, there)) e use_is,
          row.in_order a c before conflict e,
        );
        from_first = omega (arith, begun, first, within.from_one);
        waits = λ need. omega (arith, begun, first, within.from_one);
      }

  turn_by : (b : Bool) (r c : ℕ) (u : Use) → relaxed c ≡ b → r < length rows → use_of rows uses r c ≡ Some u → KeepsTurn rows uses spread r c u
  turn_by true r c u e there is = turn_same r c u e ((keeps r there).turns c u (record { is_relaxed = e; is_use = is }))
  turn_by false r c u e there is = turn_new r c u there e is

  not_before : (b : Bool) (c : ℕ) → relaxed c ≡ b → others c ≡ false → relaxed c ≡ false
  not_before true c e none = absurd (true≢false (sym (more c e) ∙ none))
  not_before false c e none = e

  pub spread_keeps : KeepsTurns rows uses others spread
  spread_keeps r there =
      let row = keeps r there in
      record {
        one_by_one = row.one_by_one;
        spawned = row.spawned;
        in_order = λ a c before conflict none. row.in_order a c before conflict (not_before (relaxed c) c refl none);
        turns = λ c u turn. turn_by (relaxed c) r c u refl there turn.is_use;
      }

  over_in : (b : Bool) (tick r c : ℕ) (u : Use) → relaxed c ≡ b → r < length rows → use_of rows uses r c ≡ Some u
      → IsOverBy rows uses relaxed times tick r → over spread r c u ≤ tick
  over_in true tick r c u e there is by = omega (arith, over_same r c u e, by.turns c u (record { is_relaxed = e; is_use = is }))
  over_in false tick r c u e there is by = omega (arith, over_late r c u there e is, by.row)

  pub spread_over : (tick : ℕ) → AreOverBy rows uses relaxed times tick → AreOverBy rows uses others spread tick
  spread_over tick by r there = record {
    row = (by r there).row;
    turns = λ c u turn. over_in (relaxed c) tick r c u refl there turn.is_use (by r there);
  }

  pub spread_ends : (tick end : ℕ) → AreOverBy rows uses relaxed times tick → IsUsedEnd rows uses others end → end ≤ tick
  spread_ends tick end by e = none_end_sooner rows uses others are spread tick end spread_keeps (spread_over tick by) e

pub more_ends : (rows : List Row) (uses : List (Option Use)) (relaxed others : ℕ → Bool) (end other : ℕ) → AreUses rows uses → AreWithin relaxed others
    → IsUsedEnd rows uses relaxed end → IsUsedEnd rows uses others other → other ≤ end
more_ends rows uses relaxed others end other are more e f = spread_ends rows uses are relaxed others more e.times e.earliest.keeps end other e.all_over f

-- ---- the span

-- a plan, at whose starts the rows make their ticks without a wait
abbrev steady : List ℕ → Times
steady plan = record { made = λ r k. start_of plan r + k; begun = λ r c. 0 }

module _ (rows : List Row) (uses : List (Option Use)) (plan : List ℕ) (keeps : Keeps rows plan) where
  steady_keeps : KeepsTurns rows uses (λ c. false) (steady plan)
  steady_keeps b there = record {
    one_by_one = λ k h. omega arith;
    spawned = λ a child. omega (arith, keeps.spawned a b child);
    in_order = λ a c before conflict none. omega (arith, keeps.in_order a b there (record { before = before; shared = (c, conflict) }));
    turns = λ c u turn. absurd (true≢false (sym turn.is_relaxed));
  }

  steady_over : (span : ℕ) → IsEnd rows plan span → AreOverBy rows uses (λ c. false) (steady plan) span
  steady_over span end r there = record { row = omega (arith, end.none_later r there); turns = λ c u turn. absurd (true≢false (sym turn.is_relaxed)) }

pub span_ends : (rows : List Row) (uses : List (Option Use)) (relaxed : ℕ → Bool) (span end : ℕ) → AreUses rows uses → IsSpan rows span
    → IsUsedEnd rows uses relaxed end → end ≤ span
span_ends rows uses relaxed span end are s e =
    spread_ends rows uses are (λ c. false) relaxed (λ c f. absurd (true≢false (sym f))) (steady s.plan) (steady_keeps rows uses s.plan s.earliest.keeps)
    span end (steady_over rows uses s.plan s.earliest.keeps span s.ends) e

-- ---- the rows without the relaxed cowns

module _ (rows : List Row) where
  all_long : (cowns : List ℕ) → length (without_all cowns rows) ≡ length rows
  all_long [] = refl
  all_long (cown ∷ cowns) = length-without cown (without_all cowns rows) ∙ all_long cowns

  all_parents : (cowns : List ℕ) (r : ℕ) → parent_of (without_all cowns rows) r ≡ parent_of rows r
  all_parents [] r = refl
  all_parents (cown ∷ cowns) r = parent_of-without cown (without_all cowns rows) r ∙ all_parents cowns r

  all_offsets : (cowns : List ℕ) (r : ℕ) → offset_of (without_all cowns rows) r ≡ offset_of rows r
  all_offsets [] r = refl
  all_offsets (cown ∷ cowns) r = offset_of-without cown (without_all cowns rows) r ∙ all_offsets cowns r

  all_ticks : (cowns : List ℕ) (r : ℕ) → ticks_of (without_all cowns rows) r ≡ ticks_of rows r
  all_ticks [] r = refl
  all_ticks (cown ∷ cowns) r = ticks_of-without cown (without_all cowns rows) r ∙ all_ticks cowns r

  other_test : (c x : ℕ) → c ≢ x → nat_eq c x ≡ false
  other_test c x ne = grind (arith, nat_tests)

  all_conflicts : (cowns : List ℕ) (c a b : ℕ) → ConflictOn (without_all cowns rows) c a b → (among cowns c ≡ false) × ConflictOn rows c a b
  all_conflicts [] c a b on = (refl, on)
  all_conflicts (cown ∷ cowns) c a b on =
      let one = was_conflict cown (without_all cowns rows) c a b on in
      let rest = all_conflicts cowns c a b one.1 in
      (rw (other_test c cown one.0) rest.0, rest.1)

  module _ (uses : List (Option Use)) (cowns : List ℕ) (times : Times) (keeps : KeepsTurns rows uses (among cowns) times) where
    abbrev starts : List ℕ
    starts = map (λ r. times.made r 0) (range_with_len 0 (length rows))

    start_is : (r : ℕ) → r < length rows → start_of starts r ≡ times.made r 0
    start_is r there = get_or-map-range_with_len (λ r. times.made r 0) 0 (length rows) r r 0 there (omega arith)

    row_end : (r : ℕ) → r < length rows → times.made r 0 + ticks_of rows r ≤ times.made r (ticks_of rows r)
    row_end r there = made_more rows uses (among cowns) times r (keeps r there) (ticks_of rows r) 0 (ticks_of rows r) (omega arith) (omega arith)

    starts_keep : IsRows rows → Keeps (without_all cowns rows) starts
    starts_keep hr = record {
      whole = length-map (range_with_len 0 (length rows)) (λ r. times.made r 0) ∙ length-range_with_len 0 (length rows) ∙ sym (all_long cowns);
      spawned = λ a b child. (
          let there : b < length rows = omega (arith, child.there, all_long cowns) in
          let parent : parent_of rows b ≡ a = sym (all_parents cowns b) ∙ child.parent in
          let own : IsChild rows a b = record { not_main = child.not_main; there = there; parent = parent } in
          let before : a < b = omega (arith, hr.parent_before b child.not_main there, parent) in
          let cover : offset_of rows b ≤ ticks_of rows a =
          subst (λ (x : ℕ). offset_of rows b ≤ ticks_of rows x) parent (hr.ticks_cover b child.not_main there) in
          let made = made_more rows uses (among cowns) times a (keeps a (omega (arith, before, there))) (offset_of rows b) 0 (offset_of rows b)
          (omega arith) cover in
          omega (arith, all_offsets cowns b, start_is a (omega (arith, before, there)), start_is b there, made, (keeps b there).spawned a own));
      in_order = λ a b low o. (
          let there : b < length rows = omega (arith, low, all_long cowns) in
          let was = all_conflicts cowns o.shared.0 a b o.shared.1 in
          let first : a < length rows = omega (arith, o.before, there) in
          omega (
            arith,
            all_ticks cowns a,
            start_is a first,
            start_is b there,
            row_end a first,
            (keeps b there).in_order a o.shared.0 o.before was.1 was.0,
          ));
    }

    pub without_ends : IsRows rows → (span tick : ℕ) → IsSpan (without_all cowns rows) span → AreOverBy rows uses (among cowns) times tick → span ≤ tick
    without_ends hr span tick s by =
        let r : ℕ = s.ends.reached.0 in
        let low : r < length (without_all cowns rows) = s.ends.reached.1 in
        let there : r < length rows = omega (arith, low, all_long cowns) in
        omega (
          arith,
          s.ends.reached.2,
          all_ticks cowns r,
          s.earliest.least starts (starts_keep hr) r low,
          start_is r there,
          row_end r there,
          (by r there).row,
        )

pub none_ends : (rows : List Row) (uses : List (Option Use)) (span end : ℕ) → IsRows rows → AreUses rows uses → IsSpan rows span
    → IsUsedEnd rows uses (among []) end → end ≡ span
none_ends rows uses span end hr are s e = omega (
  arith,
  span_ends rows uses (among []) span end are s e,
  without_ends rows uses [] e.times e.earliest.keeps hr span end s e.all_over,
)
