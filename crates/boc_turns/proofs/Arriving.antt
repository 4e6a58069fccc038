-- What the cowns that come to a row make of its start, its waits, and the ticks by which it leaves them.
use Rattle.std.proofs.Common.{◌≡◌, ◌⊎◌, inl, inr, ℕ, ◌<◌, ◌≤◌, max, List, [], ◌∷◌, ◌++◌, length, Option, Some, None}
use Rattle.std.proofs.Common.{refl, subst, sym, ap, ◌∙◌, arith, append_assoc}
use Rattle.std.specs.Prelude.{slice_index, slice_set}
use Rattle.std.specs.List.{Contains, fold}
use Rattle.std.proofs.lemmas.Bool.{cases_eq}
use Rattle.std.proofs.lemmas.List.{get_or-set_same, get_or-set_other, length-set, append-nil}
use Rattle.std.proofs.lemmas.List.Elements.{Contains-append_left, Contains-push, Contains-push_cases}
use Rattle.boc_turns.specs.declared.pace.Wait.{Wait}
use Rattle.boc_turns.specs.declared.coming.Hold.{Hold}
use Rattle.boc_turns.specs.declared.coming.Hold.TheVariants.{Whole, Never, Turn}
use Rattle.boc_turns.specs.declared.coming.Coming.{Coming}
use Rattle.boc_turns.specs.Pace.{start_after, started, wait_for, and_wait, waited, noted, latest}
use Rattle.boc_turns.proofs.Pacing.{contains_split, contains_rest, contains_here}

-- ---- the start

after_ge : (hold : Hold) (came start : ℕ) → start ≤ start_after hold came start
after_ge Whole came start = omega arith
after_ge Never came start = omega arith
after_ge (Turn u) came start = omega arith

after_has : (hold : Hold) (came start : ℕ) → hold ≡ Whole → came ≤ start_after hold came start
after_has Whole came start e = omega arith
after_has Never came start e = absurd cc
after_has (Turn u) came start e = absurd cc

after_least : (hold : Hold) (came start most : ℕ) → start ≤ most → (hold ≡ Whole → came ≤ most) → start_after hold came start ≤ most
after_least Whole came start most h c = (let l = c refl in omega arith)
after_least Never came start most h c = h
after_least (Turn u) came start most h c = h

pub start_ge : (start : ℕ) (coming : List Coming) → start ≤ fold started start coming
start_ge start [] = omega arith
start_ge start (x ∷ coming) = omega (arith, after_ge x.hold x.came start, start_ge (started start x) coming)

pub start_has : (start : ℕ) (coming : List Coming) (x : Coming) → Contains coming x → x.hold ≡ Whole → x.came ≤ fold started start coming
start_has start [] x h e = absurd (omega (arith, h.1))
start_has start (y ∷ coming) x h e = elim (contains_split y coming x h) [
  | inl same ↦ (
      let whole : y.hold ≡ Whole = ap (λ (z : Coming). z.hold) same ∙ e in
      let came : y.came ≡ x.came = ap (λ (z : Coming). z.came) same in
      omega (arith, came, after_has y.hold y.came start whole, start_ge (started start y) coming))
  | inr rest ↦ start_has (started start y) coming x rest e
]

pub start_least : (start most : ℕ) (coming : List Coming) → start ≤ most → ((x : Coming) → Contains coming x → x.hold ≡ Whole → x.came ≤ most)
    → fold started start coming ≤ most
start_least start most [] h all = h
start_least start most (x ∷ coming) h all =
    start_least (started start x) most coming (after_least x.hold x.came start most h (all x (contains_here x coming)))
    (λ y has. all y (contains_rest x coming y has))

-- ---- the waits

and_keeps : (waits : List Wait) (o : Option Wait) (wait : Wait) → Contains waits wait → Contains (and_wait waits o) wait
and_keeps waits None wait h = h
and_keeps waits (Some w) wait h = Contains-append_left waits (w ∷ []) wait h

and_adds : (waits : List Wait) (o : Option Wait) (wait : Wait) → o ≡ Some wait → Contains (and_wait waits o) wait
and_adds waits None wait e = absurd cc
and_adds waits (Some w) wait e = (let same : w ≡ wait = cc in subst (λ (y : Wait). Contains (waits ++ w ∷ []) y) same (Contains-push waits w))

and_cases : (waits : List Wait) (o : Option Wait) (wait : Wait) → Contains (and_wait waits o) wait → Contains waits wait ⊎ (o ≡ Some wait)
and_cases waits None wait h = inl h
and_cases waits (Some w) wait h = elim (Contains-push_cases waits w wait h) [ inl has ↦ inl has | inr e ↦ inr (ap (λ (y : Wait). Some y) e) ]

and_behind : (front waits : List Wait) (o : Option Wait) → and_wait (front ++ waits) o ≡ front ++ and_wait waits o
and_behind front waits None = refl
and_behind front waits (Some w) = append_assoc front waits (w ∷ [])

pub waits_behind : (front waits : List Wait) (coming : List Coming) → fold waited (front ++ waits) coming ≡ front ++ fold waited waits coming
waits_behind front waits [] = refl
waits_behind front waits (x ∷ coming) =
    ap (λ (l : List Wait). fold waited l coming) (and_behind front waits (wait_for x.hold x.came)) ∙ waits_behind front (waited waits x) coming

pub waits_added : (front : List Wait) (coming : List Coming) → fold waited front coming ≡ front ++ fold waited [] coming
waits_added front coming = ap (λ (l : List Wait). fold waited l coming) (sym (append-nil front)) ∙ waits_behind front [] coming

waits_keep : (waits : List Wait) (coming : List Coming) (wait : Wait) → Contains waits wait → Contains (fold waited waits coming) wait
waits_keep waits [] wait h = h
waits_keep waits (x ∷ coming) wait h = waits_keep (waited waits x) coming wait (and_keeps waits (wait_for x.hold x.came) wait h)

pub waits_sound : (waits : List Wait) (coming : List Coming) (wait : Wait) → Contains (fold waited waits coming) wait
    → Contains waits wait ⊎ ((x : Coming) × Contains coming x × (wait_for x.hold x.came ≡ Some wait))
waits_sound waits [] wait h = inl h
waits_sound waits (x ∷ coming) wait h = elim (waits_sound (waited waits x) coming wait h) [
  | inl has ↦ elim (and_cases waits (wait_for x.hold x.came) wait has) [ inl old ↦ inl old | inr e ↦ inr (x, contains_here x coming, e) ]
  | inr (y, has, e) ↦ inr (y, contains_rest x coming y has, e)
]

pub waits_complete : (waits : List Wait) (coming : List Coming) (x : Coming) (wait : Wait) → Contains coming x → wait_for x.hold x.came ≡ Some wait
    → Contains (fold waited waits coming) wait
waits_complete waits [] x wait h e = absurd (omega (arith, h.1))
waits_complete waits (y ∷ coming) x wait h e = elim (contains_split y coming x h) [
  | inl same ↦ waits_keep (waited waits y) coming wait
      (and_adds waits (wait_for y.hold y.came) wait (ap (λ (z : Coming). wait_for z.hold z.came) same ∙ e))
  | inr rest ↦ waits_complete (waited waits y) coming x wait rest e
]

-- ---- the ticks by which cowns are left

module _ (left : Coming → Option ℕ) where
  abbrev note_all : List ℕ → Coming → List ℕ
  note_all ticks x = noted x.cown (left x) ticks

  noted_long : (cown : ℕ) (o : Option ℕ) (ticks : List ℕ) → length (noted cown o ticks) ≡ length ticks
  noted_long cown None ticks = refl
  noted_long cown (Some tick) ticks = length-set ticks cown (max (slice_index ticks cown) tick)

  noted_ge : (cown : ℕ) (o : Option ℕ) (ticks : List ℕ) (c : ℕ) → cown < length ticks → slice_index ticks c ≤ slice_index (noted cown o ticks) c
  noted_ge cown None ticks c there = omega arith
  noted_ge cown (Some tick) ticks c there = elim (cases_eq c cown) [
    | inl e ↦ rw e (omega (arith, get_or-set_same ticks cown (max (slice_index ticks cown) tick) 0 there))
    | inr ne ↦ omega (arith, get_or-set_other ticks cown c (max (slice_index ticks cown) tick) 0 ne)
  ]

  noted_has : (cown : ℕ) (o : Option ℕ) (ticks : List ℕ) (tick : ℕ) → cown < length ticks → o ≡ Some tick → tick ≤ slice_index (noted cown o ticks) cown
  noted_has cown None ticks tick there e = absurd cc
  noted_has cown (Some left) ticks tick there e =
      let same : left ≡ tick = cc in
      omega (arith, same, get_or-set_same ticks cown (max (slice_index ticks cown) left) 0 there)

  noted_least : (cown : ℕ) (o : Option ℕ) (ticks : List ℕ) (c most : ℕ) → cown < length ticks → slice_index ticks c ≤ most
      → ((tick : ℕ) → cown ≡ c → o ≡ Some tick → tick ≤ most) → slice_index (noted cown o ticks) c ≤ most
  noted_least cown None ticks c most there h all = h
  noted_least cown (Some tick) ticks c most there h all = elim (cases_eq c cown) [
    | inl e ↦ (
        let new : slice_index (slice_set ticks cown (max (slice_index ticks cown) tick)) c ≡ max (slice_index ticks cown) tick =
        rw e (get_or-set_same ticks cown (max (slice_index ticks cown) tick) 0 there) in
        let old : slice_index ticks cown ≡ slice_index ticks c = ap (slice_index ticks) (sym e) in
        omega (arith, new, old, h, all tick (sym e) refl))
    | inr ne ↦ omega (arith, get_or-set_other ticks cown c (max (slice_index ticks cown) tick) 0 ne, h)
  ]

  pub all_long : (ticks : List ℕ) (coming : List Coming) → length (fold (λ l x. noted x.cown (left x) l) ticks coming) ≡ length ticks
  all_long ticks [] = refl
  all_long ticks (x ∷ coming) = all_long (noted x.cown (left x) ticks) coming ∙ noted_long x.cown (left x) ticks

  module _ (most_cowns : ℕ) where
    abbrev AreSmall : List Coming → Type 0
    AreSmall coming = (x : Coming) → Contains coming x → x.cown < most_cowns

    rest_small : (x : Coming) (coming : List Coming) → AreSmall (x ∷ coming) → AreSmall coming
    rest_small x coming small y h = small y (contains_rest x coming y h)

    head_there : (ticks : List ℕ) (x : Coming) (coming : List Coming) → length ticks ≡ most_cowns → AreSmall (x ∷ coming) → x.cown < length ticks
    head_there ticks x coming whole small = omega (arith, whole, small x (contains_here x coming))

    next_whole : (ticks : List ℕ) (x : Coming) → length ticks ≡ most_cowns → length (noted x.cown (left x) ticks) ≡ most_cowns
    next_whole ticks x whole = noted_long x.cown (left x) ticks ∙ whole

    pub all_ge : (ticks : List ℕ) (coming : List Coming) (c : ℕ) → length ticks ≡ most_cowns → AreSmall coming
        → slice_index ticks c ≤ slice_index (fold (λ l x. noted x.cown (left x) l) ticks coming) c
    all_ge ticks [] c whole small = omega arith
    all_ge ticks (x ∷ coming) c whole small = omega (
      arith,
      noted_ge x.cown (left x) ticks c (head_there ticks x coming whole small),
      all_ge (noted x.cown (left x) ticks) coming c (next_whole ticks x whole) (rest_small x coming small),
    )

    pub all_has : (ticks : List ℕ) (coming : List Coming) (x : Coming) (tick : ℕ) → length ticks ≡ most_cowns → AreSmall coming → Contains coming x
        → left x ≡ Some tick → tick ≤ slice_index (fold (λ l x. noted x.cown (left x) l) ticks coming) x.cown
    all_has ticks [] x tick whole small h e = absurd (omega (arith, h.1))
    all_has ticks (y ∷ coming) x tick whole small h e = elim (contains_split y coming x h) [
      | inl same ↦ (
          let cown : y.cown ≡ x.cown = ap (λ (z : Coming). z.cown) same in
          let here : tick ≤ slice_index (noted y.cown (left y) ticks) y.cown =
          noted_has y.cown (left y) ticks tick (head_there ticks y coming whole small) (ap left same ∙ e) in
          let more = all_ge (noted y.cown (left y) ticks) coming y.cown (next_whole ticks y whole) (rest_small y coming small) in
          subst (λ (c : ℕ). tick ≤ slice_index (fold (λ l x. noted x.cown (left x) l) (noted y.cown (left y) ticks) coming) c) cown
          (omega (arith, here, more)))
      | inr rest ↦ all_has (noted y.cown (left y) ticks) coming x tick (next_whole ticks y whole) (rest_small y coming small) rest e
    ]

    pub all_least : (ticks : List ℕ) (coming : List Coming) (c most : ℕ) → length ticks ≡ most_cowns → AreSmall coming → slice_index ticks c ≤ most
        → ((x : Coming) (tick : ℕ) → Contains coming x → x.cown ≡ c → left x ≡ Some tick → tick ≤ most)
        → slice_index (fold (λ l x. noted x.cown (left x) l) ticks coming) c ≤ most
    all_least ticks [] c most whole small h all = h
    all_least ticks (x ∷ coming) c most whole small h all =
        all_least (noted x.cown (left x) ticks) coming c most (next_whole ticks x whole) (rest_small x coming small)
        (noted_least x.cown (left x) ticks c most (head_there ticks x coming whole small) h (λ tick e. all x tick (contains_here x coming) e))
        (λ y tick has. all y tick (contains_rest x coming y has))

  -- ---- the latest of them

  latest_ge : (o : Option ℕ) (tick : ℕ) → tick ≤ latest o tick
  latest_ge None tick = omega arith
  latest_ge (Some left) tick = omega arith

  latest_has : (o : Option ℕ) (tick left : ℕ) → o ≡ Some left → left ≤ latest o tick
  latest_has None tick left e = absurd cc
  latest_has (Some x) tick left e = (let same : x ≡ left = cc in omega (arith, same))

  latest_least : (o : Option ℕ) (tick most : ℕ) → tick ≤ most → ((left : ℕ) → o ≡ Some left → left ≤ most) → latest o tick ≤ most
  latest_least None tick most h all = h
  latest_least (Some x) tick most h all = omega (arith, h, all x refl)

  pub last_ge : (tick : ℕ) (coming : List Coming) → tick ≤ fold (λ last x. latest (left x) last) tick coming
  last_ge tick [] = omega arith
  last_ge tick (x ∷ coming) = omega (arith, latest_ge (left x) tick, last_ge (latest (left x) tick) coming)

  pub last_has : (tick : ℕ) (coming : List Coming) (x : Coming) (own : ℕ) → Contains coming x → left x ≡ Some own
      → own ≤ fold (λ last x. latest (left x) last) tick coming
  last_has tick [] x own h e = absurd (omega (arith, h.1))
  last_has tick (y ∷ coming) x own h e = elim (contains_split y coming x h) [
    | inl same ↦ omega (arith, latest_has (left y) tick own (ap left same ∙ e), last_ge (latest (left y) tick) coming)
    | inr rest ↦ last_has (latest (left y) tick) coming x own rest e
  ]

  pub last_least : (tick most : ℕ) (coming : List Coming) → tick ≤ most → ((x : Coming) (own : ℕ) → Contains coming x → left x ≡ Some own → own ≤ most)
      → fold (λ last x. latest (left x) last) tick coming ≤ most
  last_least tick most [] h all = h
  last_least tick most (x ∷ coming) h all =
      last_least (latest (left x) tick) most coming (latest_least (left x) tick most h (λ own e. all x own (contains_here x coming) e))
      (λ y own has. all y own (contains_rest x coming y has))
