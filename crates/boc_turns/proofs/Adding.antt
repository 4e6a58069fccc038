-- Ticks that are added for the cowns of a row, one after the other.
use Rattle.std.proofs.Common.{◌≡◌, ◌≢◌, ℕ, suc, ◌+◌, ◌*◌, ◌<◌, ◌≤◌, List, ◌++◌, length, take, drop, refl, ap, sym, ◌∙◌, subst, arith, length-set, cond, Bool, true, false, inl, inr}
use Rattle.std.specs.Prelude.{slice_index, slice_index_or, slice_set, replicate, Option, Some, None}
use Rattle.std.specs.List.{Contains}
use Rattle.std.proofs.lemmas.Bool.{cases_eq}
use Rattle.std.proofs.lemmas.List.{get_or_default, get_or-set_same, get_or-set_other, get_or-replicate, length-replicate, append-nil, drop_all, take_all}
use Rattle.boc_program.specs.declared.limits.TheConstants.{MOST_COWNS, MOST_TICKS}
use Rattle.boc_order.proofs.Found.{among_tells}
use Rattle.boc_runs.specs.declared.rows.Row.{Row}
use Rattle.boc_runs.specs.Rows.{IsRows, cowns_of}
use Rattle.boc_uses.specs.declared.uses.Use.{Use}
use Rattle.boc_turns.specs.Course.{wrote_cown}
use Rattle.boc_turns.specs.Ticks.{AreTicks, ticks_before, use_ticks}
use Rattle.boc_turns.specs.Turns.{use_at, use_of, AreUses}
use Rattle.boc_turns.proofs.Gathering.{distinct, use_there, use_has}

-- what is added for the cown at a place
abbrev pub added_at : List Row → ℕ → List (Option Use) → ℕ → ℕ
added_at rows r uses j = cond (wrote_cown rows r (slice_index (cowns_of rows r) j)) (use_ticks (slice_index_or uses j None)) 0

-- the ticks are added for the first i cowns of row r
pub record SomeAdded (rows : List Row) (r : ℕ) (uses : List (Option Use)) (i : ℕ) (old new : List ℕ) : Type 0 where
  pub whole : length new ≡ length old
  pub own : (j : ℕ) → j < i → slice_index new (slice_index (cowns_of rows r) j) ≡ slice_index old (slice_index (cowns_of rows r) j) + added_at rows r uses j
  pub others : (c : ℕ) → ((j : ℕ) → j < i → slice_index (cowns_of rows r) j ≢ c) → slice_index new c ≡ slice_index old c

module _ (rows : List Row) (hr : IsRows rows) (r : ℕ) (there : r < length rows) (uses : List (Option Use)) (old : List ℕ) where
  abbrev cowns : List ℕ
  cowns = cowns_of rows r

  pub added_none : SomeAdded rows r uses 0 old old
  added_none = record { whole = refl; own = λ j h. absurd (omega (arith, h)); others = λ c none. refl }

  module _ (i : ℕ) (new : List ℕ) (s : SomeAdded rows r uses i old new) (below : i < length (cowns_of rows r)) where
    abbrev cown : ℕ
    cown = slice_index (cowns_of rows r) i

    other_cown : (j : ℕ) → j < i → slice_index cowns j ≢ cown
    other_cown j less = distinct rows hr uses r there j i less below

    pub fresh : slice_index new (slice_index (cowns_of rows r) i) ≡ slice_index old (slice_index (cowns_of rows r) i)
    fresh = s.others cown other_cown

    pub added_more : slice_index (cowns_of rows r) i < length old → (sum : ℕ)
        → sum ≡ slice_index new (slice_index (cowns_of rows r) i) + added_at rows r uses i
        → SomeAdded rows r uses (i + 1) old (slice_set new (slice_index (cowns_of rows r) i) sum)
    added_more small sum is =
        let inside : cown < length new = omega (arith, small, s.whole) in
        record {
          whole = length-set new cown sum ∙ s.whole;
          own = λ j h. elim (cases_eq j i) [
            | inl e ↦ rw e (get_or-set_same new cown sum 0 inside ∙ is ∙ ap (λ (k : ℕ). k + added_at rows r uses i) fresh)
            | inr ne ↦ (
                let less : j < i = omega arith in
                get_or-set_other new cown (slice_index cowns j) sum 0 (other_cown j less) ∙ s.own j less)
          ];
          others = λ c none.
              get_or-set_other new cown c sum 0 (λ (e : c ≡ cown). none i (omega arith) (sym e))
              ∙ s.others c (λ j less. none j (omega (arith, less)));
        }

  cond_none : (b : Bool) → cond b (use_ticks None) 0 ≡ 0
  cond_none true = refl
  cond_none false = refl

  -- for a cown that the row has
  has_it : (i : ℕ) (new : List ℕ) → length cowns ≤ i → length cowns ≤ length uses → SomeAdded rows r uses i old new → (j : ℕ) → j < length cowns
      → slice_index new (slice_index cowns j)
      ≡ slice_index old (slice_index cowns j) + cond (wrote_cown rows r (slice_index cowns j)) (use_ticks (use_at cowns uses (slice_index cowns j))) 0
  has_it i new all enough s j h =
      s.own j (omega (arith, all, h)) ∙ ap (λ (u : Option Use). slice_index old (slice_index cowns j) + cond (wrote_cown rows r (slice_index cowns j)) (use_ticks u) 0)
      (sym (use_there cowns uses j (distinct rows hr uses r there) h (omega (arith, h, enough))))

  -- and so they are added for all
  pub added_all : (i : ℕ) (new : List ℕ) → length (cowns_of rows r) ≤ i → i ≤ length (cowns_of rows r) → length (cowns_of rows r) ≤ length uses
      → SomeAdded rows r uses i old new → (c : ℕ)
      → slice_index new c ≡ slice_index old c + cond (wrote_cown rows r c) (use_ticks (use_at (cowns_of rows r) uses c)) 0
  added_all i new all up enough s c = elim (among_tells c cowns) [
    | inl (t, (j, h, at)) ↦ (
        let same : slice_index cowns j ≡ c = get_or_default cowns j 0 c h ∙ at in
        subst (λ (k : ℕ). slice_index new k ≡ slice_index old k + cond (wrote_cown rows r k) (use_ticks (use_at cowns uses k)) 0) same
        (has_it i new all enough s j h))
    | inr (t, none) ↦ (
        let same : slice_index new c ≡ slice_index old c =
        s.others c (λ j less e. none (let l : j < length cowns = omega (arith, less, up) in (j, l, get_or_default cowns j c 0 l ∙ e))) in
        let no_use : use_at cowns uses c ≡ None = not_used (use_at cowns uses c) refl none in
        rw no_use (omega (arith, same, cond_none (wrote_cown rows r c))))
  ]
    where
      not_used : (o : Option Use) → use_at cowns uses c ≡ o → (Contains cowns c → ⊥) → o ≡ None
      not_used None e none = refl
      not_used (Some u) e none = absurd (none (use_has cowns uses c u e))

module _ (rows : List Row) (hr : IsRows rows) (uses : List (Option Use)) (ha : AreUses rows uses) (n : ℕ) (there : n < length rows) where
  use_low : (c : ℕ) (o : Option Use) → use_of rows uses n c ≡ o → use_ticks o ≤ MOST_TICKS
  use_low c None e = omega arith
  use_low c (Some u) e = (let w = ha.within n c u e in omega (arith, w.from_one, w.ends, hr.ticks_high n there))

  added_low : (c : ℕ) (b : Bool) → cond b (use_ticks (use_of rows uses n c)) 0 ≤ MOST_TICKS
  added_low c true = use_low c (use_of rows uses n c) refl
  added_low c false = omega arith

  ticks_step : (c : ℕ) → ticks_before rows uses c (n + 1) ≡ ticks_before rows uses c n + cond (wrote_cown rows n c) (use_ticks (use_of rows uses n c)) 0
  ticks_step c = let e : n + 1 ≡ suc n = omega arith in ap (ticks_before rows uses c) e

  -- one row more is counted
  pub ticks_more : (old new : List ℕ) → AreTicks rows uses n old → length new ≡ MOST_COWNS
      → ((c : ℕ) → c < MOST_COWNS → slice_index new c ≡ slice_index old c + cond (wrote_cown rows n c) (use_ticks (use_of rows uses n c)) 0)
      → AreTicks rows uses (n + 1) new
  ticks_more old new are whole each = record {
    whole = whole;
    at = λ c small. omega (arith, each c small, are.at c small, ticks_step c);
    low = λ c small. omega (arith, each c small, are.low c small, added_low c (wrote_cown rows n c));
  }

-- no row is counted
pub ticks_none : (rows : List Row) (uses : List (Option Use)) (totals : List ℕ) → totals ≡ replicate MOST_COWNS 0 → AreTicks rows uses 0 totals
ticks_none rows uses totals is = rw is (record {
  whole = length-replicate {A = ℕ} MOST_COWNS 0;
  at = λ c small. get_or-replicate {A = ℕ} MOST_COWNS c 0 0 small;
  low = λ c small. omega (arith, get_or-replicate {A = ℕ} MOST_COWNS c 0 0 small);
})

-- a list that was written over as a whole
pub written_back : (new items : List ℕ) (len : ℕ) → length new ≡ length items → len ≡ length items → take len (new ++ drop (length new) items) ≡ new
written_back new items len long whole = rw (drop_all (length new) items (omega (arith, long)), append-nil new) (take_all len new (omega (arith, long, whole)))
