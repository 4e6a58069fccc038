-- What holds of eager plans.
use Rattle.std.proofs.Common.{◌≡◌, ◌≢◌, ℕ, zero, suc, ◌<◌, ◌≤◌, ◌⊎◌, List, length, None, refl, sym, ◌∙◌, subst, arith, inl, inr}
use Rattle.std.proofs.lemmas.Bool.{cases_eq, cases_lt}
use Rattle.std.proofs.lemmas.Grind.{same_number_lists}
use Rattle.boc_runs.specs.declared.rows.Row.{Row}
use Rattle.boc_runs.specs.Rows.{IsRows}
use Rattle.boc_plans.specs.Plans.{ConflictOn, IsEnd, Keeps, end_of, start_of}
use Rattle.boc_plans.specs.Greedy.{IsSpan}
use Rattle.boc_order.specs.Least.{KeepsApart, KeepsSpawns}
use Rattle.boc_eager.specs.Eager.{IsEager, IsSpawnedBy}
use Rattle.boc_eager.specs.Swaps.{GoesAhead, IsFirstSwap}

-- what is ordered either way conflicts either way
turned : (rows : List Row) (c a b : ℕ) → ConflictOn rows c a b → ConflictOn rows c b a
turned rows c a b k = record { first = k.second; second = k.first; wrote = elim k.wrote [ inl w ↦ inr w | inr w ↦ inl w ] }

-- a row is spawned when it starts
spawned_at : (rows : List Row) (plan : List ℕ) → KeepsSpawns rows plan → (b : ℕ) → IsSpawnedBy rows plan (start_of plan b) b
spawned_at rows plan keeps b = λ a child. keeps.spawned a b child

module _ (rows : List Row) (hr : IsRows rows) (plan : List ℕ) (e : IsEager rows plan) where
  -- no row that has started before, or at the same tick with a lower number, is under way
  over_then : (a b c : ℕ) → a ≢ b → a < length rows → b < length rows → ConflictOn rows c a b → (start_of plan a < start_of plan b)
      ⊎ ((start_of plan a ≡ start_of plan b) × (a < b)) → end_of rows plan a ≤ start_of plan b
  over_then a b c ne ha hb conflict begun = elim (cases_lt (start_of plan b) (end_of rows plan a)) [
    | inl under_way ↦ absurd (((e.at (start_of plan b)) b hb (omega arith) (spawned_at rows plan e.keeps b)).0 refl a
        (record { there = ha; other = ne; at_odds = (c, conflict); begun = begun; not_over = under_way }))
    | inr over ↦ over
  ]

  pub keeps_apart : KeepsApart rows plan
  keeps_apart a b c ne ha hb conflict = elim (cases_lt (start_of plan a) (start_of plan b)) [
    | inl l ↦ inl (over_then a b c ne ha hb conflict (inl l))
    | inr ge ↦ elim (cases_lt (start_of plan b) (start_of plan a)) [
      | inl g ↦ inr (over_then b a c (λ s. ne (sym s)) hb ha (turned rows c a b conflict) (inl g))
      | inr le ↦ elim (cases_lt a b) [
        | inl l ↦ inl (over_then a b c ne ha hb conflict (inr (omega (arith, ge, le), l)))
        | inr g ↦ inr (over_then b a c (λ s. ne (sym s)) hb ha (turned rows c a b conflict) (inr (omega (arith, ge, le), omega (arith, g, ne))))
      ]
    ]
  ]

  -- where no row goes ahead of another, the plan keeps the order of the numbers
  keeps_order : ((r : ℕ) → (a : ℕ) → GoesAhead rows plan a r → ⊥) → Keeps rows plan
  keeps_order none = record {
    whole = e.keeps.whole;
    spawned = e.keeps.spawned;
    in_order = λ a b hb o. (
        let before = o.before in
        let ne : a ≢ b = λ s. omega (arith, s, before) in
        let ha : a < length rows = omega (arith, before, hb) in
        elim (keeps_apart a b o.shared.0 ne ha hb o.shared.1) [
          | inl over ↦ over
          | inr behind ↦ absurd (
              let ticks = hr.ticks_low b hb in
              none b a (record { there = hb; ordered = o; sooner = omega (arith, behind, ticks) }))
        ]);
  }

  pub differs : (span end : ℕ) → IsEnd rows plan end → IsSpan rows span → end < span → IsFirstSwap rows plan None → ⊥
  differs span end ends is_span sooner none =
      let keeps = keeps_order (λ r a g. none r (a, g)) in
      let last = is_span.ends.reached in
      let early = is_span.earliest.least plan keeps last.0 last.1 in
      let late = ends.none_later last.0 last.1 in
      let at = last.2 in
      omega (arith, early, late, at, sooner)

-- ---- there is one

module _ (rows : List Row) (hr : IsRows rows) where
  -- two plans agree on the rows that start before this row at this tick
  abbrev AgreeBefore : List ℕ → List ℕ → ℕ → ℕ → Type 0
  AgreeBefore plan other t b = (a : ℕ) → a < length rows → (start_of plan a < t) ⊎ ((start_of plan a ≡ t) × (a < b)) → start_of other a ≡ start_of plan a

  -- a row that starts in one plan does in the other, if it doesn't start there before
  same_start : (plan other : List ℕ) → IsEager rows plan → IsEager rows other → (t b : ℕ) → b < length rows → start_of plan b ≡ t → t ≤ start_of other b
      → AgreeBefore plan other t b → AgreeBefore other plan t b → start_of other b ≡ t
  same_start plan other p o t b hb starts not_before agree agree' =
      let spawned : IsSpawnedBy rows other t b = λ a child. (
      let x = p.keeps.spawned a b child in
      let off = hr.offset_above b child.not_main child.there in
      let before : a < b = subst (λ (z : ℕ). z < b) child.parent (hr.parent_before b child.not_main hb) in
      let same = agree a (omega (arith, before, hb)) (inl (omega (arith, x, off, starts))) in
      omega (arith, x, same, starts)) in
      ((o.at t) b hb not_before spawned).1 (λ a way. (
      let same : start_of plan a ≡ start_of other a = agree' a way.there way.begun in
      let free = ((p.at t) b hb (omega (arith, starts)) (subst (λ (u : ℕ). IsSpawnedBy rows plan u b) starts (spawned_at rows plan p.keeps b))).0 starts in
      free a (record {
        there = way.there;
        other = way.other;
        at_odds = way.at_odds;
        begun = elim way.begun [ inl l ↦ inl (omega (arith, l, same)) | inr q ↦ inr (same ∙ q.0, q.1) ];
        not_over = omega (arith, way.not_over, same);
      })))

  -- before tick t, and at it below row b, they start the same rows
  abbrev Agree : List ℕ → List ℕ → ℕ → ℕ → Type 0
  Agree plan other t b = AgreeBefore plan other t b × AgreeBefore other plan t b

  module _ (plan other : List ℕ) (p : IsEager rows plan) (o : IsEager rows other) where
    agree_next : (t b : ℕ) → Agree plan other t b → Agree plan other t (suc b)
    agree_next t b g = (
      λ a ha before. elim before [
        | inl l ↦ g.0 a ha (inl l)
        | inr q ↦ elim (cases_eq a b) [
          | inl e ↦ here a ha e q.0
          | inr ne ↦ (let q1 = q.1 in g.0 a ha (inr (q.0, omega (arith, q1))))
        ]
      ],
      λ a ha before. elim before [
        | inl l ↦ g.1 a ha (inl l)
        | inr q ↦ elim (cases_eq a b) [
          | inl e ↦ there a ha e q.0
          | inr ne ↦ (let q1 = q.1 in g.1 a ha (inr (q.0, omega (arith, q1))))
        ]
      ],
    )
      where
        here : (a : ℕ) → a < length rows → a ≡ b → start_of plan a ≡ t → start_of other a ≡ start_of plan a
        here a ha e at = elim (cases_lt (start_of other a) t) [
          | inl l ↦ sym (g.1 a ha (inl l))
          | inr ge ↦ same_start plan other p o t a ha at ge (subst (λ (z : ℕ). AgreeBefore plan other t z) (sym e) g.0)
              (subst (λ (z : ℕ). AgreeBefore other plan t z) (sym e) g.1) ∙ sym at
        ]

        there : (a : ℕ) → a < length rows → a ≡ b → start_of other a ≡ t → start_of plan a ≡ start_of other a
        there a ha e at = elim (cases_lt (start_of plan a) t) [
          | inl l ↦ sym (g.0 a ha (inl l))
          | inr ge ↦ same_start other plan o p t a ha at ge (subst (λ (z : ℕ). AgreeBefore other plan t z) (sym e) g.1)
              (subst (λ (z : ℕ). AgreeBefore plan other t z) (sym e) g.0) ∙ sym at
        ]

    agree_below : (t b : ℕ) → Agree plan other t 0 → Agree plan other t b
    agree_below t zero g = g
    agree_below t (suc b) g = agree_next t b (agree_below t b g)

    agree_on : (t : ℕ) → Agree plan other t 0 → Agree plan other (suc t) 0
    agree_on t g =
        let all = agree_below t (length rows) g in (
          λ a ha before. all.0 a ha (now plan a t ha before),
          λ a ha before. all.1 a ha (now other a t ha before),
        )
      where
        now : (xs : List ℕ) (a t : ℕ) → a < length rows → (start_of xs a < suc t) ⊎ ((start_of xs a ≡ suc t) × (a < 0))
            → (start_of xs a < t) ⊎ ((start_of xs a ≡ t) × (a < length rows))
        now xs a t ha (inl l) = elim (cases_lt (start_of xs a) t) [ inl m ↦ inl m | inr ge ↦ inr (omega (arith, l, ge), ha) ]
        now xs a t ha (inr q) = absurd (let q1 = q.1 in omega (arith, q1))

    agree_all : (t : ℕ) → Agree plan other t 0
    agree_all zero = (
      λ a ha before. elim before [ inl l ↦ absurd (omega (arith, l)) | inr q ↦ absurd (let q1 = q.1 in omega (arith, q1)) ],
      λ a ha before. elim before [ inl l ↦ absurd (omega (arith, l)) | inr q ↦ absurd (let q1 = q.1 in omega (arith, q1)) ],
    )
    agree_all (suc t) = agree_on t (agree_all t)

    same_at : (a : ℕ) → a < length rows → start_of other a ≡ start_of plan a
    same_at a ha = (agree_all (suc (start_of plan a))).0 a ha (inl (omega arith))

    pub one_plan : plan ≡ other
    one_plan = same_number_lists plan other (p.keeps.whole ∙ sym o.keeps.whole) (λ a h. sym (same_at a (omega (arith, h, p.keeps.whole))))
