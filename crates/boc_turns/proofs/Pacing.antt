-- What the start and the waits of a row make of its ticks.
use Rattle.std.proofs.Common.{◌≡◌, ◌⊎◌, inl, inr, ℕ, zero, suc, ◌+◌, ◌<◌, ◌≤◌, List, [], ◌∷◌, refl, sym, ap, arith}
use Rattle.std.specs.List.{Contains, fold}
use Rattle.std.proofs.lemmas.Bool.{cases_lt}
use Rattle.boc_turns.specs.declared.pace.Wait.{Wait}
use Rattle.boc_turns.specs.Pace.{later, made_by}
use Rattle.boc_turns.proofs.Folding.{later_takes, later_skips}

pub contains_split : {X : Type 0} (y : X) (ys : List X) (x : X) → Contains (y ∷ ys) x → (y ≡ x) ⊎ Contains ys x
contains_split y ys x (zero, h, e) = inl e
contains_split y ys x (suc k, h, e) = inr (k, omega (arith, h), e)

pub contains_rest : {X : Type 0} (y : X) (ys : List X) (x : X) → Contains ys x → Contains (y ∷ ys) x
contains_rest y ys x (k, h, e) = (suc k, omega (arith, h), e)

pub contains_here : {X : Type 0} (y : X) (ys : List X) → Contains (y ∷ ys) y
contains_here y ys = (0, omega arith, refl)

-- ---- the start, with the waits so far

later_cases : (k start : ℕ) (wait : Wait) → ((wait.first ≤ k) × (later k start wait ≡ (let m : ℕ = later k start wait in m)) × (start ≤ later k start wait)
    × (wait.late ≤ later k start wait) × ((later k start wait ≡ start) ⊎ (later k start wait ≡ wait.late)))
    ⊎ ((k < wait.first) × (later k start wait ≡ start))
later_cases k start wait = elim (cases_lt k wait.first) [
  | inl lt ↦ inr (lt, sym (later_skips k start wait lt))
  | inr le ↦ (
      let e = later_takes k start wait le in
      inl (
        le,
        refl,
        omega (arith, e),
        omega (arith, e),
        elim (cases_lt start wait.late) [ inl l ↦ inr (omega (arith, e, l)) | inr g ↦ inl (omega (arith, e, g)) ],
      ))
]

pub later_ge : (k start : ℕ) (wait : Wait) → start ≤ later k start wait
later_ge k start wait = elim (later_cases k start wait) [ inl (le, same, h, l, either) ↦ h | inr (lt, e) ↦ omega (arith, e) ]

later_has : (k start : ℕ) (wait : Wait) → wait.first ≤ k → wait.late ≤ later k start wait
later_has k start wait le = elim (later_cases k start wait) [ inl (low, same, h, l, either) ↦ l | inr (lt, e) ↦ absurd (omega (arith, le, lt)) ]

later_least : (k start most : ℕ) (wait : Wait) → start ≤ most → (wait.first ≤ k → wait.late ≤ most) → later k start wait ≤ most
later_least k start most wait h l = elim (later_cases k start wait) [
  | inl (low, same, ge, late, either) ↦ elim either [ inl e ↦ omega (arith, e, h) | inr e ↦ omega (arith, e, l low) ]
  | inr (lt, e) ↦ omega (arith, e, h)
]

later_up : (k start more : ℕ) (wait : Wait) → start ≤ more → later k start wait ≤ later (k + 1) more wait
later_up k start more wait h = later_least k start (later (k + 1) more wait) wait (let g = later_ge (k + 1) more wait in omega (arith, g, h))
    (λ le. later_has (k + 1) more wait (omega (arith, le)))

-- ---- all waits

pub waits_ge : (k start : ℕ) (waits : List Wait) → start ≤ fold (later k) start waits
waits_ge k start [] = omega arith
waits_ge k start (wait ∷ waits) = omega (arith, later_ge k start wait, waits_ge k (later k start wait) waits)

pub waits_has : (k start : ℕ) (waits : List Wait) (wait : Wait) → Contains waits wait → wait.first ≤ k → wait.late ≤ fold (later k) start waits
waits_has k start [] wait h le = absurd (omega (arith, h.1))
waits_has k start (x ∷ waits) wait h le = elim (contains_split x waits wait h) [
  | inl e ↦ (
      let here : x.late ≤ later k start x = later_has k start x (rw e le) in
      let late : x.late ≡ wait.late = ap (λ (w : Wait). w.late) e in
      omega (arith, here, late, waits_ge k (later k start x) waits))
  | inr rest ↦ waits_has k (later k start x) waits wait rest le
]

pub waits_least : (k start most : ℕ) (waits : List Wait) → start ≤ most → ((wait : Wait) → Contains waits wait → wait.first ≤ k → wait.late ≤ most)
    → fold (later k) start waits ≤ most
waits_least k start most [] h all = h
waits_least k start most (x ∷ waits) h all = waits_least k (later k start x) most waits (later_least k start most x h (all x (contains_here x waits)))
    (λ wait has. all wait (contains_rest x waits wait has))

pub waits_up : (k start more : ℕ) (waits : List Wait) → start ≤ more → fold (later k) start waits ≤ fold (later (k + 1)) more waits
waits_up k start more [] h = h
waits_up k start more (x ∷ waits) h = waits_up k (later k start x) (later (k + 1) more x) waits (later_up k start more x h)

pub made_step : (start : ℕ) (waits : List Wait) (k : ℕ) → made_by start waits k + 1 ≤ made_by start waits (k + 1)
made_step start waits k = (let up = waits_up k start start waits (omega arith) in omega (arith, up))
