-- The least starts of the rows that wrote each cown, row by row, and that none of these rows is done before them in any order.
use Rattle.std.proofs.Common.{◌≡◌, inl, inr, ℕ, ◌+◌, ◌<◌, ◌≤◌, ◌⊎◌, Bool, true, false, true≢false, List, length, Option, Some, None}
use Rattle.std.proofs.Common.{⊎_elim, refl, ap, sym, ◌∙◌, subst, arith, length-set}
use Rattle.std.specs.Prelude.{nat_eq, replicate, slice_index, slice_index_or, slice_set}
use Rattle.std.specs.List.{Contains, list_any}
use Rattle.std.proofs.lemmas.Bool.{cases_eq, cases_lt}
use Rattle.std.proofs.lemmas.List.{get_or_default, get_or-replicate, get_or-set_same, get_or-set_other, length-replicate}
use Rattle.boc_program.specs.declared.limits.TheConstants.{MOST_COWNS}
use Rattle.boc_runs.specs.declared.rows.Row.{Row}
use Rattle.boc_runs.specs.Rows.{IsRows, cowns_of, written_of}
use Rattle.boc_plans.specs.Plans.{start_of}
use Rattle.boc_order.proofs.Near.{writes_own}
use Rattle.boc_order.specs.Least.{AreFirstStarts, IsFirstStart, sooner, wrote_cown}
use Rattle.boc_order.proofs.Found.{among_tells}

abbrev first_at : List (Option ℕ) → ℕ → Option ℕ
first_at firsts c = slice_index_or firsts c None

-- the same start twice is noted once
sooner_twice : (o : Option ℕ) (start : ℕ) → sooner (Some (sooner o start)) start ≡ sooner o start
sooner_twice None start = omega arith
sooner_twice (Some first) start = omega arith

-- ---- the start of one row more

-- the start of row n is noted for the first i of its cowns, where it wrote them
pub record SomeNoted (rows : List Row) (n start i : ℕ) (old new : List (Option ℕ)) : Type 0 where
  pub whole : length new ≡ length old
  pub each : (c : ℕ) → ((j : ℕ) × (j < i) × (slice_index (cowns_of rows n) j ≡ c) × Contains (written_of rows n) c
      × (first_at new c ≡ Some (sooner (first_at old c) start)))
      ⊎ (((j : ℕ) → j < i → slice_index (cowns_of rows n) j ≡ c → Contains (written_of rows n) c → ⊥) × (first_at new c ≡ first_at old c))

module _ (rows : List Row) (n start : ℕ) (old : List (Option ℕ)) where
  pub noted_none : SomeNoted rows n start 0 old old
  noted_none = record { whole = refl; each = λ c. inr (λ j h. absurd (omega (arith, h)), refl) }

  module _ (i : ℕ) (new : List (Option ℕ)) (s : SomeNoted rows n start i old new) where
    abbrev cown : ℕ
    cown = slice_index (cowns_of rows n) i

    -- a cown that the row only read is passed over
    pub noted_skips : (Contains (written_of rows n) (slice_index (cowns_of rows n) i) → ⊥) → SomeNoted rows n start (i + 1) old new
    noted_skips not = record {
      whole = s.whole;
      each = λ c. elim (s.each c) [
        | inl (j, less, at, w, is) ↦ inl (j, omega (arith, less), at, w, is)
        | inr (none, same) ↦ inr (
          λ j less at w. elim (cases_eq j i) [
            | inl e ↦ not (subst (Contains (written_of rows n)) (sym at ∙ ap (slice_index (cowns_of rows n)) e) w)
            | inr ne ↦ none j (omega arith) at w
          ],
          same,
        )
      ];
    }

    -- what is noted for the next cown
    note : first_at new cown ≡ first_at old cown ⊎ (first_at new cown ≡ Some (sooner (first_at old cown) start)) → sooner (first_at new cown) start
        ≡ sooner (first_at old cown) start
    note (inl same) = ap (λ (o : Option ℕ). sooner o start) same
    note (inr once) = ap (λ (o : Option ℕ). sooner o start) once ∙ sooner_twice (first_at old cown) start

    before : (first_at new cown ≡ first_at old cown) ⊎ (first_at new cown ≡ Some (sooner (first_at old cown) start))
    before = elim (s.each cown) [ inl (j, less, at, w, is) ↦ inr is | inr (none, same) ↦ inl same ]

    -- for one that it wrote its start is noted
    pub noted_takes : Contains (written_of rows n) (slice_index (cowns_of rows n) i) → slice_index (cowns_of rows n) i < length old → (first : ℕ)
        → first ≡ sooner (first_at new (slice_index (cowns_of rows n) i)) start
        → SomeNoted rows n start (i + 1) old (slice_set new (slice_index (cowns_of rows n) i) (Some first))
    noted_takes w small first is =
        let inside : cown < length new = omega (arith, small, s.whole) in
        record {
          whole = length-set new cown (Some first) ∙ s.whole;
          each = λ c. elim (cases_eq c cown) [
            | inl e ↦ inl (
              i,
              omega arith,
              sym e,
              subst (Contains (written_of rows n)) (sym e) w,
              ap (first_at (slice_set new cown (Some first))) e ∙ (get_or-set_same new cown (Some first) None inside
                  ∙ (ap (λ (k : ℕ). Some k) (is ∙ note before) ∙ ap (λ (k : ℕ). Some (sooner (first_at old k) start)) (sym e))),
            )
            | inr ne ↦ (
                let other : first_at (slice_set new cown (Some first)) c ≡ first_at new c = get_or-set_other new cown c (Some first) None ne in
                elim (s.each c) [
                  | inl (j, less, at, wrote, same) ↦ inl (j, omega (arith, less), at, wrote, other ∙ same)
                  | inr (none, same) ↦ inr (
                    λ j less at wrote. elim (cases_eq j i) [
                      | inl e ↦ ne (sym at ∙ ap (slice_index (cowns_of rows n)) e)
                      | inr nj ↦ none j (omega arith) at wrote
                    ],
                    other ∙ same,
                  )
                ])
          ];
        }

-- ---- the least starts of one row more

module _ (passes : ℕ → Bool) (plan : List ℕ) (n start : ℕ) (is : start ≡ start_of plan n) where
  -- the next row passes
  first_with : (o : Option ℕ) → passes n ≡ true → IsFirstStart passes plan n o → IsFirstStart passes plan (n + 1) (Some (sooner o start))
  first_with None is_one none = record {
    row = n;
    below = omega arith;
    is_one = is_one;
    starts = sym is;
    none_sooner = λ r h p. elim (cases_eq r n) [
      | inl e ↦ omega (arith, is, ap (start_of plan) e)
      | inr ne ↦ absurd (true≢false (sym p ∙ none r (omega arith)))
    ];
  }
  first_with (Some first) is_one s = elim (cases_lt start first) [
    | inl less ↦ record {
      row = n;
      below = omega arith;
      is_one = is_one;
      starts = omega (arith, is, less);
      none_sooner = λ r h p. elim (cases_eq r n) [
        | inl e ↦ omega (arith, is, ap (start_of plan) e)
        | inr ne ↦ (let low : first ≤ start_of plan r = s.none_sooner r (omega arith) p in omega (arith, low))
      ];
    }
    | inr more ↦ record {
      row = s.row;
      below = omega (arith, s.below);
      is_one = s.is_one;
      starts = omega (arith, s.starts, more);
      none_sooner = λ r h p. elim (cases_eq r n) [
        | inl e ↦ omega (arith, is, ap (start_of plan) e)
        | inr ne ↦ (let low : first ≤ start_of plan r = s.none_sooner r (omega arith) p in omega (arith, low))
      ];
    }
  ]

  -- the next row doesn't pass
  first_without : (o : Option ℕ) → passes n ≡ false → IsFirstStart passes plan n o → IsFirstStart passes plan (n + 1) o
  first_without None fails none = λ r h. elim (cases_eq r n) [ inl e ↦ ap passes e ∙ fails | inr ne ↦ none r (omega arith) ]
  first_without (Some first) fails s = record {
    row = s.row;
    below = omega (arith, s.below);
    is_one = s.is_one;
    starts = s.starts;
    none_sooner = λ r h p. elim (cases_eq r n) [
      | inl e ↦ absurd (true≢false (sym p ∙ (ap passes e ∙ fails)))
      | inr ne ↦ s.none_sooner r (omega arith) p
    ];
  }

module _ (rows : List Row) (hr : IsRows rows) (plan : List ℕ) (n : ℕ) (there : n < length rows) (old new : List (Option ℕ)) (start i : ℕ)
    (is : start ≡ start_of plan n) (all : length (cowns_of rows n) ≤ i) (s : SomeNoted rows n start i old new) (f : AreFirstStarts rows plan n old) where
  first_next : (c : ℕ) → c < MOST_COWNS → IsFirstStart (wrote_cown rows c) plan (n + 1) (first_at new c)
  first_next c small = ⊎_elim
      (λ (y : (list_any (nat_eq c) (written_of rows n) ≡ true) × Contains (written_of rows n) c).
      let has = writes_own rows hr n c there y.1 in
      let at : slice_index (cowns_of rows n) has.0 ≡ c = get_or_default (cowns_of rows n) has.0 0 c has.1 ∙ has.2 in
      elim (s.each c) [
        | inl (j, less, same, w, now) ↦ subst (IsFirstStart (wrote_cown rows c) plan (n + 1)) (sym now)
            (first_with (wrote_cown rows c) plan n start is (first_at old c) y.0 (f.at c small))
        | inr (none, same) ↦ absurd (none has.0 (omega (arith, has.1, all)) at y.1)
      ])
      (λ (no : (list_any (nat_eq c) (written_of rows n) ≡ false) × (Contains (written_of rows n) c → ⊥)).
      elim (s.each c) [
        | inl (j, less, same, w, now) ↦ absurd (no.1 w)
        | inr (none, same) ↦ subst (IsFirstStart (wrote_cown rows c) plan (n + 1)) (sym same)
            (first_without (wrote_cown rows c) plan n start is (first_at old c) no.0 (f.at c small))
      ])
      (among_tells c (written_of rows n))

  pub firsts_more : AreFirstStarts rows plan (n + 1) new
  firsts_more = record { whole = s.whole ∙ f.whole; at = first_next }

-- before the first row
pub firsts_begin : (rows : List Row) (plan : List ℕ) (firsts : List (Option ℕ)) → firsts ≡ replicate MOST_COWNS None → AreFirstStarts rows plan 0 firsts
firsts_begin rows plan firsts is = rw is (record {
  whole = length-replicate {A = Option ℕ} MOST_COWNS None;
  at = λ c small. subst (IsFirstStart (wrote_cown rows c) plan 0) (sym (get_or-replicate {A = Option ℕ} MOST_COWNS c None None small))
      (λ r h. absurd (omega (arith, h)));
})

pub firsts_all : (rows : List Row) (plan : List ℕ) (n count : ℕ) (firsts : List (Option ℕ)) → count ≤ n → n ≤ count → AreFirstStarts rows plan n firsts
    → AreFirstStarts rows plan count firsts
firsts_all rows plan n count firsts low high f =
    subst (λ (k : ℕ). AreFirstStarts rows plan k firsts) (let e : n ≡ count = omega (arith, low, high) in e) f

-- ---- there is one

pub one_first : (passes : ℕ → Bool) (plan : List ℕ) (n : ℕ) (a b : Option ℕ) → IsFirstStart passes plan n a → IsFirstStart passes plan n b → a ≡ b
one_first passes plan n None None f g = refl
one_first passes plan n None (Some b) f g = absurd (true≢false (sym g.is_one ∙ f g.row g.below))
one_first passes plan n (Some a) None f g = absurd (true≢false (sym f.is_one ∙ g f.row f.below))
one_first passes plan n (Some a) (Some b) f g =
    let low : a ≤ start_of plan g.row = f.none_sooner g.row g.below g.is_one in
    let high : b ≤ start_of plan f.row = g.none_sooner f.row f.below f.is_one in
    let same : a ≡ b = omega (arith, low, high, f.starts, g.starts) in
    ap (λ (k : ℕ). Some k) same
