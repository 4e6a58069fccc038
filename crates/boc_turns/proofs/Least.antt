-- The earliest times that keep the rules of turns: no others end sooner, and there are no two.
use Rattle.std.proofs.Common.{◌≡◌, ◌⊎◌, inl, inr, ℕ, zero, suc, ◌+◌, ◌-◌, ◌<◌, ◌≤◌, Bool, true, false, List, length, Option, refl, subst, arith}
use Rattle.boc_runs.specs.declared.rows.Row.{Row}
use Rattle.boc_runs.specs.Rows.{ticks_of}
use Rattle.boc_uses.specs.declared.uses.Use.{Use}
use Rattle.boc_turns.specs.Turns.{AreUses, Times, over, IsTurn, KeepsRow, KeepsTurns, IsNoLater, AreEarliest, IsOverBy, AreOverBy, IsUsedEnd}

-- when a turn is over, by whether the row needs the cown
pub over_cases : (times : Times) (r c : ℕ) (u : Use)
    → ((u.needed ≡ true) × (over times r c u ≡ times.made r u.last))
    ⊎ ((u.needed ≡ false) × (over times r c u ≡ times.begun r c + (u.last + 1 - u.first)))
over_cases times r c u = go u.needed refl
  where
    go : (b : Bool) → u.needed ≡ b
        → ((u.needed ≡ true) × (over times r c u ≡ times.made r u.last))
        ⊎ ((u.needed ≡ false) × (over times r c u ≡ times.begun r c + (u.last + 1 - u.first)))
    go true e = inl (e, rw e)
    go false e = inr (e, rw e)

module _ (rows : List Row) (uses : List (Option Use)) (relaxed : ℕ → Bool) where
  -- a row makes each tick at least one later than the one before
  pub made_more : (times : Times) (b : ℕ) → KeepsRow rows uses relaxed times b → (d k j : ℕ) → k + d ≡ j → j ≤ ticks_of rows b
      → times.made b k + d ≤ times.made b j
  made_more times b keeps zero k j e h =
      let same : k ≡ j = omega (arith, e) in
      subst (λ (x : ℕ). times.made b k + 0 ≤ times.made b x) same (omega arith)
  made_more times b keeps (suc d) k j e h =
      let same : k + d + 1 ≡ j = omega (arith, e) in
      let before = made_more times b keeps d k (k + d) refl (omega (arith, e, h)) in
      let step = keeps.one_by_one (k + d) (omega (arith, e, h)) in
      subst (λ (x : ℕ). times.made b k + suc d ≤ times.made b x) same (omega (arith, before, step))

  module _ (are : AreUses rows uses) where
    -- a turn that begins no later, in a row whose ticks are no later, is over no later
    pub over_le : (times others : Times) (r c : ℕ) (u : Use) → IsNoLater rows uses relaxed times others r → IsTurn rows uses relaxed r c u
        → over times r c u ≤ over others r c u
    over_le times others r c u le turn =
        let within = are.within r c u turn.is_use in
        let ticks = le.ticks u.last within.ends in
        let begun = le.turns c u turn in
        elim (over_cases times r c u) [
          | inl (need, is) ↦ elim (over_cases others r c u) [
            | inl (also, same) ↦ omega (arith, is, same, ticks)
            | inr (not, same) ↦ absurd (let e : true ≡ false = cc in cc)
          ]
          | inr (none, is) ↦ elim (over_cases others r c u) [
            | inl (also, same) ↦ absurd (let e : true ≡ false = cc in cc)
            | inr (not, same) ↦ omega (arith, is, same, begun)
          ]
        ]

    pub over_by_le : (times others : Times) (tick r : ℕ) → IsNoLater rows uses relaxed times others r → IsOverBy rows uses relaxed others tick r
        → IsOverBy rows uses relaxed times tick r
    over_by_le times others tick r le by = record {
      row = omega (arith, le.ticks (ticks_of rows r) (omega arith), by.row);
      turns = λ c u turn. omega (arith, over_le times others r c u le turn, by.turns c u turn);
    }

    pub none_end_sooner : (times : Times) (tick end : ℕ) → KeepsTurns rows uses relaxed times → AreOverBy rows uses relaxed times tick
        → IsUsedEnd rows uses relaxed end → end ≤ tick
    none_end_sooner times tick end keeps by e =
        e.none_sooner tick (λ r there. over_by_le e.times times tick r (e.earliest.least times keeps r there) (by r there))

    pub one_end : (end other : ℕ) → IsUsedEnd rows uses relaxed end → IsUsedEnd rows uses relaxed other → end ≡ other
    one_end end other e f = omega (
      arith,
      none_end_sooner f.times other end f.earliest.keeps f.all_over e,
      none_end_sooner e.times end other e.earliest.keeps e.all_over f,
    )

  module _ (times others : Times) (e : AreEarliest rows uses relaxed times) (f : AreEarliest rows uses relaxed others) (r : ℕ) (there : r < length rows) where
    pub one_tick : (k : ℕ) → k ≤ ticks_of rows r → times.made r k ≡ others.made r k
    one_tick k h = omega (arith, (e.least others f.keeps r there).ticks k h, (f.least times e.keeps r there).ticks k h)

    pub one_turn : (c : ℕ) (u : Use) → IsTurn rows uses relaxed r c u → times.begun r c ≡ others.begun r c
    one_turn c u turn = omega (arith, (e.least others f.keeps r there).turns c u turn, (f.least times e.keeps r there).turns c u turn)
