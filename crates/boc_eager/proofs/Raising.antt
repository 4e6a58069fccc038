-- From when on what rows wait for is free, as a row starts.
use Rattle.std.proofs.Common.{◌≡◌, ◌≢◌, ℕ, ◌+◌, ◌*◌, ◌<◌, ◌⊎◌, Bool, true, false, true≢false, cond, List, length, set, refl, sym, ◌∙◌, subst, arith, inl, inr, length-set, get_or-set_same, get_or-set_other}
use Rattle.std.specs.Prelude.{◌↔◌, IsTrue, max, slice_index}
use Rattle.std.specs.List.{Contains}
use mir.Val.{bool_byte}
use Rattle.std.proofs.lemmas.Bool.{cases_eq, cases_lt}
use Rattle.boc_runs.specs.declared.rows.Row.{Row}
use Rattle.boc_runs.specs.Rows.{cowns_of, written_of}
use Rattle.boc_order.specs.Least.{wrote_cown}
use Rattle.boc_order.proofs.Found.{among_tells}
use Rattle.boc_eager.specs.Courses.{AreRaised, IsRaised, Touches}

-- whether a row writes a cown, as a number
pub writes_as_number : (rows : List Row) (r c n : ℕ) (b : Bool) → IsTrue b ↔ Contains (written_of rows r) c → n ≡ bool_byte b
    → n ≡ cond (wrote_cown rows c r) 1 0
writes_as_number rows r c n true tells is = elim (among_tells c (written_of rows r)) [
  | inl y ↦ rw y.0 is
  | inr none ↦ absurd (none.1 (tells.0 refl))
]
writes_as_number rows r c n false tells is = elim (among_tells c (written_of rows r)) [
  | inl y ↦ absurd (true≢false (sym (tells.1 y.1)))
  | inr none ↦ rw none.0 is
]

pub raised_none : (rows : List Row) (r end : ℕ) (free : List ℕ) → AreRaised rows r end 0 free free
raised_none rows r end free = record {
  whole = refl;
  grows = λ wait. omega arith;
  raised = λ wait t. absurd (omega (arith, t.below));
  was = λ wait. inl refl;
}

-- one more is raised
pub raised_one : (Among More : ℕ → Type 0) (end : ℕ) (old mid new : List ℕ) (x v : ℕ) → x < length mid → IsRaised Among end old mid
    → new ≡ set mid x v → v ≡ max (slice_index mid x) end → More x → ((wait : ℕ) → Among wait → More wait) → ((wait : ℕ) → More wait → (wait ≡ x) ⊎ Among wait)
    → IsRaised More end old new
raised_one Among More end old mid new x v there r is v_is here more less = rw is (record {
  whole = length-set mid x v ∙ r.whole;
  grows = λ wait. elim (cases_eq wait x) [
    | inl e ↦ (let g = r.grows x in let s = at_x in rw e (omega (arith, g, s, v_is)))
    | inr ne ↦ (let g = r.grows wait in let o = other wait ne in omega (arith, g, o))
  ];
  raised = λ wait m. elim (cases_eq wait x) [
    | inl e ↦ (let s = at_x in rw e (omega (arith, s, v_is)))
    | inr ne ↦ elim (less wait m) [
      | inl e ↦ absurd (ne e)
      | inr a ↦ (let g = r.raised wait a in let o = other wait ne in omega (arith, g, o))
    ]
  ];
  was = λ wait. elim (cases_eq wait x) [
    | inl e ↦ rw e (elim (cases_lt (slice_index mid x) end) [
      | inl low ↦ inr (let s = at_x in omega (arith, s, v_is, low), here)
      | inr high ↦ (
          let same : slice_index (set mid x v) x ≡ slice_index mid x = (let s = at_x in omega (arith, s, v_is, high)) in
          elim (r.was x) [
            | inl o ↦ inl (same ∙ o)
            | inr (e', a) ↦ inr (same ∙ e', more x a)
          ])
    ])
    | inr ne ↦ elim (r.was wait) [
      | inl o ↦ inl (other wait ne ∙ o)
      | inr (e', a) ↦ inr (other wait ne ∙ e', more wait a)
    ]
  ];
})
  where
    at_x : slice_index (set mid x v) x ≡ v
    at_x = get_or-set_same mid x v 0 there

    other : (wait : ℕ) → wait ≢ x → slice_index (set mid x v) wait ≡ slice_index mid wait
    other wait ne = get_or-set_other mid x wait v 0 ne

module _ (rows : List Row) (r end i : ℕ) (old mid : List ℕ) (there : i < length (cowns_of rows r)) (a : AreRaised rows r end i old mid) where
  abbrev cown : ℕ
  cown = slice_index (cowns_of rows r) i

  -- those that waited at the cowns so far, or to write this one
  abbrev WithWriters : ℕ → Type 0
  WithWriters wait = (wait ≡ 2 * cown + 1) ⊎ Touches rows r i wait

  touches_more : (wait : ℕ) → Touches rows r i wait → Touches rows r (i + 1) wait
  touches_more wait t = record { i = t.i; below = omega (arith, t.below); there = t.there; at = t.at }

  touches_less : (wait : ℕ) → Touches rows r (i + 1) wait
      → WithWriters wait ⊎ ((wait ≡ 2 * cown) × Contains (written_of rows r) cown)
  touches_less wait t = elim (cases_eq t.i i) [
    | inl e ↦ subst (λ (j : ℕ). (wait ≡ 2 * slice_index (cowns_of rows r) j + 1) ⊎ ((wait ≡ 2 * slice_index (cowns_of rows r) j)
        × Contains (written_of rows r) (slice_index (cowns_of rows r) j))
        → WithWriters wait ⊎ ((wait ≡ 2 * cown) × Contains (written_of rows r) cown)) (sym e)
        (λ at. elim at [ inl w ↦ inl (inl w) | inr w ↦ inr w ]) t.at
    | inr ne ↦ inl (inr (record { i = t.i; below = omega (arith, t.below); there = t.there; at = t.at }))
  ]

  writers : (v : ℕ) → 2 * cown + 1 < length mid → v ≡ max (slice_index mid (2 * cown + 1)) end → IsRaised WithWriters end old (set mid (2 * cown + 1) v)
  writers v low is = raised_one (Touches rows r i) WithWriters end old mid (set mid (2 * cown + 1) v) (2 * cown + 1) v low a refl is (inl refl)
      (λ wait t. inr t) (λ wait m. m)

  with_writers : Touches rows r (i + 1) (2 * cown + 1)
  with_writers = record { i = i; below = omega arith; there = there; at = inl refl }

  more : (wait : ℕ) → WithWriters wait → Touches rows r (i + 1) wait
  more wait (inl e) = subst (Touches rows r (i + 1)) (sym e) with_writers
  more wait (inr t) = touches_more wait t

  -- a cown that the row only reads
  pub raised_read : (v : ℕ) (new : List ℕ) → 2 * cown + 1 < length mid → v ≡ max (slice_index mid (2 * cown + 1)) end
      → (Contains (written_of rows r) (slice_index (cowns_of rows r) i) → ⊥) → new ≡ set mid (2 * cown + 1) v → AreRaised rows r end (i + 1) old new
  raised_read v new low is reads new_is =
      let w = writers v low is in
      rw new_is (record {
        whole = w.whole;
        grows = w.grows;
        raised = λ wait t. elim (touches_less wait t) [ inl m ↦ w.raised wait m | inr o ↦ absurd (reads o.1) ];
        was = λ wait. elim (w.was wait) [ inl s ↦ inl s | inr (e, m) ↦ inr (e, more wait m) ];
      })

  -- one that it writes
  pub raised_write : (v u : ℕ) (new : List ℕ) → 2 * cown + 1 < length mid → v ≡ max (slice_index mid (2 * cown + 1)) end
      → Contains (written_of rows r) (slice_index (cowns_of rows r) i)
      → u ≡ max (slice_index (set mid (2 * cown + 1) v) (2 * cown)) end → new ≡ set (set mid (2 * cown + 1) v) (2 * cown) u
      → AreRaised rows r end (i + 1) old new
  raised_write v u new low is w u_is new_is =
      raised_one WithWriters (Touches rows r (i + 1)) end old (set mid (2 * cown + 1) v) new (2 * cown) u (omega (arith, low, length-set mid (2 * cown + 1) v))
      (writers v low is) new_is u_is (record { i = i; below = omega arith; there = there; at = inr (refl, w) }) more
      (λ wait t. elim (touches_less wait t) [ inl m ↦ inr m | inr o ↦ inl o.0 ])

pub byte_low : (b : Bool) (n : ℕ) → n ≡ bool_byte b → n < 2
byte_low true n e = omega (arith, e)
byte_low false n e = omega (arith, e)
