-- Which rows go ahead of others, and which of them starts first.
use Rattle.std.proofs.Common.{◌≡◌, ℕ, zero, suc, ◌+◌, ◌<◌, ◌≤◌, ◌⊎◌, true, false, true≢false, List, [], ◌∷◌, length, get_or, Option, Some, None, refl, sym, ap, ◌∙◌, subst, arith, inl, inr}
use Rattle.std.specs.Prelude.{IfNone, IfSome, is_some, replicate, slice_index}
use Rattle.std.specs.List.{Contains}
use Rattle.std.specs.List.Sorted.{IsStrictlyIncreasing}
use Rattle.std.proofs.lemmas.Bool.{cases_eq, cases_lt}
use Rattle.std.proofs.lemmas.List.{length-replicate}
use Rattle.std.proofs.lemmas.List.Kept.{AllPairs-from_increasing}
use Rattle.boc_runs.specs.declared.rows.Row.{Row}
use Rattle.boc_runs.specs.Rows.{cowns_of}
use Rattle.boc_plans.specs.Plans.{ConflictOn, start_of}
use Rattle.boc_order.specs.Handed.{AreHanded}
use Rattle.boc_order.proofs.Remembering.{contains_head}
use Rattle.boc_eager.specs.Courses.{AreClear, AreRaised, IsMissing, wait_of}
use Rattle.boc_eager.specs.Swaps.{GoesAhead, IsAhead, IsFirstAhead, IsLeastConflict, IsSooner, StartsFirst}
use Rattle.boc_eager.proofs.Beginning.{zeros}
use Rattle.boc_eager.proofs.Starting.{conflict_touched, touches_wait}

-- for whatever a row may wait for, the latest start of the first n rows that it conflicts with over it
pub record AreLatest (rows : List Row) (starts : List ℕ) (n : ℕ) (latest : List ℕ) : Type 0 where
  pub whole : length latest ≡ 512
  pub none_later : (a b x : ℕ) → a < n → ConflictOn rows x a b → start_of starts a ≤ slice_index latest (wait_of rows b x)
  pub reached : (b x : ℕ) → Contains (cowns_of rows b) x → (slice_index latest (wait_of rows b x) ≡ 0)
      ⊎ ((a : ℕ) × (a < n) × ConflictOn rows x a b × (start_of starts a ≡ slice_index latest (wait_of rows b x)))

-- the row that starts first of those of the first n that go ahead of some row
abbrev pub IsFirstOf : List Row → List ℕ → ℕ → Option ℕ → Type 0
IsFirstOf rows plan n (Some b) = (b < n) × IsAhead rows plan b × ((r : ℕ) → r < n → IsAhead rows plan r → StartsFirst plan b r)
IsFirstOf rows plan n None = (r : ℕ) → r < n → IsAhead rows plan r → ⊥

pub latest_none : (rows : List Row) (starts latest : List ℕ) → latest ≡ replicate 512 0 → AreLatest rows starts 0 latest
latest_none rows starts latest is = rw is (record {
  whole = (let none : ℕ = 0 in length-replicate 512 none);
  none_later = λ a b x h conflict. absurd (omega (arith, h));
  reached = λ b x own. inl (zeros 512 (wait_of rows b x));
})

module _ (rows : List Row) (starts : List ℕ) (n : ℕ) (latest : List ℕ) (are : AreLatest rows starts n latest) where
  pub latest_more : (latest' : List ℕ) (start : ℕ) → start ≡ start_of starts n → AreRaised rows n start (length (cowns_of rows n)) latest latest'
      → AreLatest rows starts (n + 1) latest'
  latest_more latest' start is raised = record {
    whole = raised.whole ∙ are.whole;
    none_later = λ a b x h conflict. elim (cases_eq a n) [
      | inl e ↦ (
          let up = raised.raised (wait_of rows b x) (touches_wait rows n b x (subst (λ (z : ℕ). ConflictOn rows x z b) e conflict)) in
          let at : start_of starts a ≡ start_of starts n = ap (start_of starts) e in
          omega (arith, up, at, is))
      | inr ne ↦ (
          let old = are.none_later a b x (omega (arith, h, ne)) conflict in
          let up = raised.grows (wait_of rows b x) in
          omega (arith, old, up))
    ];
    reached = λ b x own. elim (raised.was (wait_of rows b x)) [
      | inl same ↦ elim (are.reached b x own) [
        | inl none ↦ inl (same ∙ none)
        | inr (a, h, conflict, e) ↦ inr (a, omega (arith, h), conflict, e ∙ sym same)
      ]
      | inr (e, touched) ↦ inr (n, omega arith, conflict_touched rows n (length (cowns_of rows n)) b x own touched, sym is ∙ sym e)
    ];
  }

  -- a row that starts before the latest start goes ahead of a row
  pub is_ahead : n < length rows → (start wait : ℕ) → start ≡ start_of starts n → IsMissing rows n latest start wait → IsAhead rows starts n
  is_ahead there start wait is missing =
      let w = missing.waits in
      let held : start < slice_index latest (wait_of rows n w.cown) = subst (λ (q : ℕ). start < slice_index latest q) (sym w.is) missing.held in
      elim (are.reached n w.cown w.own) [
        | inl none ↦ absurd (omega (arith, none, held))
        | inr (a, h, conflict, e) ↦ (
          a,
          record {
            there = there;
            ordered = record { before = h; shared = (w.cown, conflict) };
            sooner = omega (arith, e, held, is);
          },
        )
      ]

  pub not_ahead : (start : ℕ) → start ≡ start_of starts n → AreClear rows n latest start → IsAhead rows starts n → ⊥
  not_ahead start is clear (a, g) =
      let x = g.ordered.shared in
      let low = are.none_later a n x.0 g.ordered.before x.1 in
      let top = clear x.0 x.1.second in
      omega (arith, low, top, is, g.sooner)

-- the next row doesn't go ahead of any
pub first_stays : (rows : List Row) (plan : List ℕ) (n : ℕ) (o : Option ℕ) → IsFirstOf rows plan n o → (IsAhead rows plan n → ⊥) → IsFirstOf rows plan (n + 1) o
first_stays rows plan n None f none = λ r h ahead. elim (cases_eq r n) [
  | inl e ↦ none (subst (IsAhead rows plan) e ahead)
  | inr ne ↦ f r (omega (arith, h, ne)) ahead
]
first_stays rows plan n (Some b) f none = (
  (let low = f.0 in omega (arith, low)),
  f.1,
  λ r h ahead. elim (cases_eq r n) [
    | inl e ↦ absurd (none (subst (IsAhead rows plan) e ahead))
    | inr ne ↦ f.2 r (omega (arith, h, ne)) ahead
  ],
)

-- the next row does
pub first_comes : (rows : List Row) (plan : List ℕ) (n : ℕ) (o : Option ℕ) (first : ℕ) → IsFirstOf rows plan n o → IsAhead rows plan n → IsSooner plan o n first
    → IsFirstOf rows plan (n + 1) (Some first)
first_comes rows plan n None first f ahead e =
    rw e (
      omega arith,
      ahead,
      λ r h a. elim (cases_eq r n) [
        | inl same ↦ rw same (inr (refl, omega arith))
        | inr ne ↦ absurd (f r (omega (arith, h, ne)) a)
      ],
    )
first_comes rows plan n (Some b) first f ahead (inl (e, low)) =
    let below = f.0 in
    rw e (
      omega (arith, below),
      f.1,
      λ r h a. elim (cases_eq r n) [
        | inl same ↦ rw same (elim (cases_lt (start_of plan b) (start_of plan n)) [
          | inl l ↦ inl l
          | inr ge ↦ inr (omega (arith, low, ge), omega (arith, below))
        ])
        | inr ne ↦ f.2 r (omega (arith, h, ne)) a
      ],
    )
first_comes rows plan n (Some b) first f ahead (inr (e, low)) =
    rw e (
      omega arith,
      ahead,
      λ r h a. elim (cases_eq r n) [
        | inl same ↦ rw same (inr (refl, omega arith))
        | inr ne ↦ elim (f.2 r (omega (arith, h, ne)) a) [
          | inl l ↦ inl (omega (arith, l, low))
          | inr q ↦ (let q0 = q.0 in inl (omega (arith, q0, low)))
        ]
      ],
    )

pub first_low : (rows : List Row) (plan : List ℕ) (n m : ℕ) (o : Option ℕ) → n ≤ m → IsFirstOf rows plan n o → IfSome o (λ first. first < m)
first_low rows plan n m None h f = tt
first_low rows plan n m (Some b) h f = (let low = f.0 in omega (arith, low, h))

pub first_of_all : (rows : List Row) (plan : List ℕ) (n : ℕ) (o : Option ℕ) → length rows ≤ n → IsFirstOf rows plan n o → IsFirstAhead rows plan o
first_of_all rows plan n None h f = λ r a. f r (let there = a.1.there in omega (arith, there, h)) a
first_of_all rows plan n (Some b) h f = (f.1, λ r a. f.2 r (let there = a.1.there in omega (arith, there, h)) a)

-- ---- the cown

pub least_conflict : (rows : List Row) (a b : ℕ) (cowns others : List ℕ) (cown : ℕ) → AreHanded rows a b cowns → cowns ≡ cown ∷ others
    → IsLeastConflict rows a b cown
least_conflict rows a b cowns others cown are is =
    let rise : IsStrictlyIncreasing (cown ∷ others) = subst IsStrictlyIncreasing is are.rise in
    record {
      over = (are.each cown).0 (rw is (contains_head cown others));
      least = λ c conflict. by_place rise c (subst (λ (cs : List ℕ). Contains cs c) is ((are.each c).1 conflict));
    }
  where
    by_place : IsStrictlyIncreasing (cown ∷ others) → (c : ℕ) → Contains (cown ∷ others) c → cown ≤ c
    by_place rise c (zero, h, e) = omega (arith, e)
    by_place rise c (suc k, h, e) =
        let less = AllPairs-from_increasing (cown ∷ others) rise 0 (suc k) c (omega arith) h in
        omega (arith, less, e)

pub no_conflict : (rows : List Row) (a b : ℕ) (cowns : List ℕ) → AreHanded rows a b cowns → cowns ≡ [] → (c : ℕ) → ConflictOn rows c a b → ⊥
no_conflict rows a b cowns are is c conflict =
    let m = subst (λ (cs : List ℕ). Contains cs c) is ((are.each c).1 conflict) in
    omega (arith, m.1)

pub least_first : (rows : List Row) (a b : ℕ) (cowns : List ℕ) → AreHanded rows a b cowns → 1 ≤ length cowns → IsLeastConflict rows a b (get_or cowns 0 0)
least_first rows a b [] are h = absurd (omega (arith, h))
least_first rows a b (x ∷ cowns) are h = least_conflict rows a b (x ∷ cowns) cowns x are refl

pub none_first : (rows : List Row) (a b : ℕ) (cowns : List ℕ) → AreHanded rows a b cowns → length cowns < 1 → (c : ℕ) → ConflictOn rows c a b → ⊥
none_first rows a b [] are h = no_conflict rows a b [] are refl
none_first rows a b (x ∷ cowns) are h = absurd (omega (arith, h))

module _ (rows : List Row) (starts : List ℕ) (n : ℕ) (latest : List ℕ) (are : AreLatest rows starts n latest) where
  pub ahead_if : (o : Option ℕ) → n < length rows → IfSome o (IsMissing rows n latest (start_of starts n)) → is_some o ≡ true → IsAhead rows starts n
  ahead_if None there m e = absurd (true≢false (sym e))
  ahead_if (Some wait) there m e = is_ahead rows starts n latest are there (start_of starts n) wait refl m

  pub none_if : (o : Option ℕ) → IfNone o (AreClear rows n latest (start_of starts n)) → is_some o ≡ false → IsAhead rows starts n → ⊥
  none_if None m e = not_ahead rows starts n latest are (start_of starts n) refl m
  none_if (Some wait) m e = absurd (true≢false e)

-- a row goes ahead of one over the cown on which they conflict
pub goes_ahead : (rows : List Row) (plan : List ℕ) (a b : ℕ) → a < b → b < length rows → start_of plan b < start_of plan a → (o : Option ℕ)
    → IfSome o (IsLeastConflict rows a b) → IfSome o (λ cown. GoesAhead rows plan a b)
goes_ahead rows plan a b before there sooner None least = tt
goes_ahead rows plan a b before there sooner (Some cown) least = record {
  there = there;
  ordered = record { before = before; shared = (cown, least.over) };
  sooner = sooner;
}

pub none_ahead : (rows : List Row) (plan : List ℕ) (a b : ℕ) (o : Option ℕ) → IfNone o ((c : ℕ) → ConflictOn rows c a b → ⊥)
    → IfNone o (GoesAhead rows plan a b → ⊥)
none_ahead rows plan a b None none = λ g. none g.ordered.shared.0 g.ordered.shared.1
none_ahead rows plan a b (Some cown) none = tt
