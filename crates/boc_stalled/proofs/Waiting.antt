-- Rows that wait for a first one, by the cowns that are marked.
use Rattle.std.proofs.Common.{◌≡◌, ℕ, ◌+◌, ◌<◌, ◌↔◌, ◌⊎◌, List, refl, subst, inl, inr, arith}
use Rattle.std.proofs.lemmas.Bool.{cases_eq}
use Rattle.std.specs.Prelude.{Option, Some, Bool}
use Rattle.std.specs.List.{Contains}
use Rattle.boc_runs.specs.Lives.{Life, Pending}
use Rattle.boc_stalled.specs.Stalled.{WaitsFor, Directly, Through, IsMarked, HasMarked}

-- a row that waits for the first one was spawned after it
pub waits_later : (life : ℕ → Option Life) (cowns : ℕ → List ℕ) (first row : ℕ) → WaitsFor life cowns first row → first < row
waits_later life cowns first row (Directly _ b) = b.later
waits_later life cowns first row (Through between _ w b) = omega (arith, waits_later life cowns first between w, b.later)

-- the first row, or one below a number that waits for it
abbrev pub IsFront : (life : ℕ → Option Life) (cowns : ℕ → List ℕ) (first n s : ℕ) → Type 0
IsFront life cowns first n s = (s ≡ first) ⊎ ((s < n) × WaitsFor life cowns first s)

-- a cown of one of these
pub record IsHeld (life : ℕ → Option Life) (cowns : ℕ → List ℕ) (first n c : ℕ) : Type 0 where
  pub row : ℕ
  pub front : IsFront life cowns first n row
  pub has : Contains (cowns row) c

-- the marked cowns are those of the first row, and of the rows below a number that wait for it
pub record AreMarked (life : ℕ → Option Life) (cowns : ℕ → List ℕ) (first n : ℕ) (marks : List Bool) : Type 0 where
  pub held : (c : ℕ) → IsMarked marks c → IsHeld life cowns first n c
  pub marked : (c : ℕ) → IsHeld life cowns first n c → IsMarked marks c

waits_by : (life : ℕ → Option Life) (cowns : ℕ → List ℕ) (first n c : ℕ) (h : IsHeld life cowns first n c) → first < n → life n ≡ Some Pending
    → Contains (cowns n) c → WaitsFor life cowns first n
waits_by life cowns first n c h later waits has = elim h.front [
  | inl e ↦ Directly n (record { later = later; waits = waits; shares = (c, subst (λ (r : ℕ). Contains (cowns r) c) e h.has, has) })
  | inr p ↦ Through h.row n p.1 (record { later = p.0; waits = waits; shares = (c, h.has, has) })
]

pub waits_if : (life : ℕ → Option Life) (cowns : ℕ → List ℕ) (first n : ℕ) (marks : List Bool) → AreMarked life cowns first n marks → first < n
    → life n ≡ Some Pending → HasMarked marks (cowns n) → WaitsFor life cowns first n
waits_if life cowns first n marks are later waits m = waits_by life cowns first n m.0 (are.held m.0 m.2) later waits m.1

pub waits_only : (life : ℕ → Option Life) (cowns : ℕ → List ℕ) (first n : ℕ) (marks : List Bool) → AreMarked life cowns first n marks
    → WaitsFor life cowns first n → (life n ≡ Some Pending) × HasMarked marks (cowns n)
waits_only life cowns first n marks are (Directly _ b) =
    (b.waits, (b.shares.0, b.shares.2, are.marked b.shares.0 (record { row = first; front = inl refl; has = b.shares.1 })))
waits_only life cowns first n marks are (Through between _ w b) =
    (b.waits, (b.shares.0, b.shares.2, are.marked b.shares.0 (record { row = between; front = inr (b.later, w); has = b.shares.1 })))

-- which cowns a change of marks marks
abbrev pub Marks : List Bool → List ℕ → List Bool → Type 0
Marks old cowns new = (c : ℕ) → IsMarked new c ↔ (IsMarked old c ⊎ Contains cowns c)

held_more : (life : ℕ → Option Life) (cowns : ℕ → List ℕ) (first n c : ℕ) → IsHeld life cowns first n c → IsHeld life cowns first (n + 1) c
held_more life cowns first n c h = record {
  row = h.row;
  front = elim h.front [ inl e ↦ inl e | inr p ↦ inr (omega (arith, p.0), p.1) ];
  has = h.has;
}

same_or_below : (s n : ℕ) → s < n + 1 → (s < n) ⊎ (s ≡ n)
same_or_below s n h = elim (cases_eq s n) [ inl e ↦ inr e | inr not ↦ inl (omega arith) ]

pub mark_first : (life : ℕ → Option Life) (cowns : ℕ → List ℕ) (first : ℕ) (old new : List Bool) → ((c : ℕ) → IsMarked old c → ⊥) → Marks old (cowns first) new
    → AreMarked life cowns first 0 new
mark_first life cowns first old new none m = record {
  held = λ c h. elim ((m c).0 h) [ inl f ↦ absurd (none c f) | inr has ↦ record { row = first; front = inl refl; has = has } ];
  marked = λ c h. elim h.front [
    | inl e ↦ (m c).1 (inr (subst (λ (r : ℕ). Contains (cowns r) c) e h.has))
    | inr p ↦ absurd (omega (arith, p.0))
  ];
}

pub mark_more : (life : ℕ → Option Life) (cowns : ℕ → List ℕ) (first n : ℕ) (old new : List Bool) → AreMarked life cowns first n old
    → WaitsFor life cowns first n → Marks old (cowns n) new → AreMarked life cowns first (n + 1) new
mark_more life cowns first n old new are w m = record {
  held = λ c h. elim ((m c).0 h) [
    | inl before ↦ held_more life cowns first n c (are.held c before)
    | inr has ↦ record { row = n; front = inr (omega arith, w); has = has }
  ];
  marked = λ c h. (m c).1 (elim h.front [
    | inl e ↦ inl (are.marked c (record { row = h.row; front = inl e; has = h.has }))
    | inr p ↦ elim (same_or_below h.row n p.0) [
      | inl less ↦ inl (are.marked c (record { row = h.row; front = inr (less, p.1); has = h.has }))
      | inr e ↦ inr (subst (λ (r : ℕ). Contains (cowns r) c) e h.has)
    ]
  ]);
}

pub mark_same : (life : ℕ → Option Life) (cowns : ℕ → List ℕ) (first n : ℕ) (marks : List Bool) → AreMarked life cowns first n marks
    → (WaitsFor life cowns first n → ⊥) → AreMarked life cowns first (n + 1) marks
mark_same life cowns first n marks are not = record {
  held = λ c h. held_more life cowns first n c (are.held c h);
  marked = λ c h. elim h.front [
    | inl e ↦ are.marked c (record { row = h.row; front = inl e; has = h.has })
    | inr p ↦ elim (same_or_below h.row n p.0) [
      | inl less ↦ are.marked c (record { row = h.row; front = inr (less, p.1); has = h.has })
      | inr e ↦ absurd (not (subst (WaitsFor life cowns first) e p.1))
    ]
  ];
}
