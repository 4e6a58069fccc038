-- Windows over stretches, of smaller and smaller size.
use Rattle.std.proofs.Common.{◌≡◌, ℕ, zero, suc, ◌+◌, ◌-◌, ◌<◌, ◌≤◌, ◌⊎◌, max, List, [], ◌∷◌, length, take, get_or, inl, inr, refl, ap, sym, ◌∙◌}
use Rattle.std.proofs.Common.{subst, arith, add-one}
use Rattle.std.specs.Prelude.{slice_index, slice_set}
use Rattle.std.specs.List.{Contains}
use Rattle.std.proofs.lemmas.Bool.{cases_lt, cases_eq}
use Rattle.std.proofs.lemmas.List.{length-set, get_or-set_same, get_or-set_other}
use Rattle.std.proofs.lemmas.List.Elements.{Contains-append_left, Contains-append_right, Contains-append_cases}
use Rattle.std.proofs.Math.Seq.{take-suc, take-length}
use Rattle.boc_sweep.specs.declared.windows.Stretch.{Stretch}
use Rattle.boc_sweep.specs.Tops.{IsCovered, IsHeld, AreWindows, AreOfLength, HasRaised, AreTops}

-- each window is split into two
module _ (stretches : List Stretch) (n size : ℕ) (s s' : ℕ → ℕ)
    (inside : (r : Stretch) → Contains stretches r → r.high ≤ n) (low : (j : ℕ) → j < size → s' j ≡ s j)
    (high : (j : ℕ) → size ≤ j → j < n → s' j ≡ max (s (j - size)) (s j)) (w : AreWindows stretches n (size + size) (size + size) s) where
  grows : (j : ℕ) → j < n → s j ≤ s' j
  grows j h = elim (cases_lt j size) [
    | inl l ↦ omega (arith, low j l)
    | inr g ↦ omega (arith, high j g h)
  ]

  held_less : (j value : ℕ) → IsHeld stretches (size + size) j value → IsHeld stretches size j value
  held_less j value (inl z) = inl z
  held_less j value (inr (r, c, a, b, q)) = inr (r, c, a, omega (arith, b), q)

  held_before : (j value : ℕ) → size ≤ j → IsHeld stretches (size + size) (j - size) value → IsHeld stretches size j value
  held_before j value h (inl z) = inl z
  held_before j value h (inr (r, c, a, b, q)) = inr (r, c, omega (arith, a), omega (arith, b, h), q)

  held : (j : ℕ) → j < n → IsHeld stretches size j (s' j)
  held j h = elim (cases_lt j size) [
    | inl l ↦ rw (low j l) (held_less j (s j) (w.sound j h))
    | inr g ↦ elim (cases_lt (s (j - size)) (s j)) [
      | inl l ↦ (let same : s' j ≡ s j = omega (arith, high j g h, l) in rw same (held_less j (s j) (w.sound j h)))
      | inr m ↦ (let same : s' j ≡ s (j - size) = omega (arith, high j g h, m) in
          rw same (held_before j (s (j - size)) g (w.sound (j - size) (omega (arith, h)))))
    ]
  ]

  covered : (r : Stretch) → Contains stretches r → r.low + (size + size) ≤ r.high → IsCovered n size s' r
  covered r c long v above below =
      let p = w.complete r c long v above below in
      let j : ℕ = p.0 in
      elim (cases_lt v (j + size)) [
        | inl l ↦ (j, p.1, l, p.3, omega (arith, p.4, grows j p.3))
        | inr g ↦ (
            let there : j + size < n = omega (arith, g, below, inside r c) in
            let back : j + size - size ≡ j = omega arith in
            let more : s' (j + size) ≡ max (s j) (s (j + size)) = rw back at (high (j + size) (omega arith) there) in
            (j + size, omega (arith, g), omega (arith, p.2), there, omega (arith, p.4, more)))
      ]

  pub windows_halved : AreWindows stretches n size (size + size) s'
  windows_halved = record { sound = held; complete = covered }

-- what covers goes on to cover, where values only grow
pub covered_grows : (n size : ℕ) (s s' : ℕ → ℕ) (r : Stretch) → ((j : ℕ) → s j ≤ s' j) → IsCovered n size s r → IsCovered n size s' r
covered_grows n size s s' r grows c v above below = let p = c v above below in (p.0, p.1, p.2, p.3, omega (arith, p.4, grows p.0))

-- what is among the first few, and what comes next
pub among_next : {X : Type 0} (xs : List X) (k : ℕ) (d r : X) → k < length xs → Contains (take (suc k) xs) r → Contains (take k xs) r ⊎ (r ≡ get_or xs k d)
among_next {X} xs k d r h c =
    elim (Contains-append_cases (take k xs) (get_or xs k d ∷ []) r (subst (λ (ys : List X). Contains ys r) (take-suc xs k d h) c)) [
      | inl before ↦ inl before
      | inr (zero, low, is) ↦ inr (sym is)
      | inr (suc i, low, is) ↦ absurd (omega (arith, low))
    ]

-- what is among the first few is so with one more
pub among_before : {X : Type 0} (xs : List X) (k : ℕ) (d r : X) → k < length xs → Contains (take k xs) r → Contains (take (suc k) xs) r
among_before {X} xs k d r h c =
    subst (λ (ys : List X). Contains ys r) (sym (take-suc xs k d h)) (Contains-append_left (take k xs) (get_or xs k d ∷ []) r c)

-- the next one is among them
pub among_last : {X : Type 0} (xs : List X) (k : ℕ) (d : X) → k < length xs → Contains (take (suc k) xs) (get_or xs k d)
among_last {X} xs k d h = subst (λ (ys : List X). Contains ys (get_or xs k d)) (sym (take-suc xs k d h))
    (Contains-append_right (take k xs) (get_or xs k d ∷ []) (get_or xs k d) (0, omega arith, refl))

-- none of the stretches has raised a window
pub raised_none : (stretches : List Stretch) (size : ℕ) (values : List ℕ) → HasRaised stretches size values 0 values
raised_none stretches size values = record { grows = λ j. omega arith; held = λ j h. inl refl; covered = λ r c. absurd (omega (arith, c.1)) }

-- the two windows of the next stretch are raised
module _ (stretches : List Stretch) (size : ℕ) (old values : List ℕ) (k : ℕ) (x : Stretch) (h : k < length stretches) (is : x ≡ get_or stretches k x)
    (some : 0 < size) (inside : x.high ≤ length old) (long : x.low + size ≤ x.high) (short : x.high < x.low + (size + size)) (len : length values ≡ length old)
    (so_far : HasRaised stretches size old k values) where
  has : Contains stretches x
  has = (k, h, sym is)

  -- a window of the stretch becomes no smaller than its value
  module _ (now : List ℕ) (place value : ℕ) (low : x.low ≤ place) (high : place + size ≤ x.high) (whole : length now ≡ length old)
      (value_is : value ≡ max x.value (slice_index now place)) where
    there : place < length now
    there = omega (arith, high, inside, some, whole)

    here : slice_index (slice_set now place value) place ≡ value
    here = get_or-set_same now place value 0 there

    raise_grows : (j : ℕ) → slice_index now j ≤ slice_index (slice_set now place value) j
    raise_grows j = elim (cases_eq j place) [
      | inl e ↦ rw e (omega (arith, here, value_is))
      | inr ne ↦ omega (arith, get_or-set_other now place j value 0 ne)
    ]

    raise_here : x.value ≤ slice_index (slice_set now place value) place
    raise_here = omega (arith, here, value_is)

    raise_held : (j : ℕ) → (slice_index now j ≡ slice_index old j) ⊎ IsHeld stretches size j (slice_index now j)
        → (slice_index (slice_set now place value) j ≡ slice_index old j) ⊎ IsHeld stretches size j (slice_index (slice_set now place value) j)
    raise_held j was = elim (cases_eq j place) [
      | inl e ↦ rw e (elim (cases_lt x.value (slice_index now place)) [
        | inl l ↦ (let same : slice_index (slice_set now place value) place ≡ slice_index now place = omega (arith, here, value_is, l) in
            rw same (rw e at was))
        | inr g ↦ inr (inr (x, has, low, high, (let same : slice_index (slice_set now place value) place ≡ x.value = omega (arith, here, value_is, g) in same)))
      ])
      | inr ne ↦ rw (get_or-set_other now place j value 0 ne) was
    ]

  module _ (a b : ℕ) (is_a : a ≡ max x.value (slice_index values x.low))
      (is_b : b ≡ max x.value (slice_index (slice_set values x.low a) (x.high - size))) where
    abbrev once : List ℕ
    once = slice_set values x.low a

    abbrev twice : List ℕ
    twice = slice_set once (x.high - size) b

    len_once : length once ≡ length old
    len_once = length-set values x.low a ∙ len

    rises : (j : ℕ) → slice_index values j ≤ slice_index twice j
    rises j = omega (
      arith,
      raise_grows values x.low a (omega arith) long len is_a j,
      raise_grows once (x.high - size) b (omega (arith, long)) (omega (arith, long)) len_once is_b j,
    )

    first : x.value ≤ slice_index twice x.low
    first = omega (
      arith,
      raise_here values x.low a (omega arith) long len is_a,
      raise_grows once (x.high - size) b (omega (arith, long)) (omega (arith, long)) len_once is_b x.low,
    )

    second : x.value ≤ slice_index twice (x.high - size)
    second = raise_here once (x.high - size) b (omega (arith, long)) (omega (arith, long)) len_once is_b

    both : IsCovered (length old) size (slice_index twice) x
    both v above below = elim (cases_lt v (x.low + size)) [
      | inl l ↦ (x.low, above, l, omega (arith, below, inside, above), first)
      | inr g ↦ (x.high - size, omega (arith, g, short), omega (arith, below, long), omega (arith, some, inside, long), second)
    ]

    pub raised_next : HasRaised stretches size old (k + 1) twice
    raised_next = record {
      grows = λ j. omega (arith, so_far.grows j, rises j);
      held = λ j l. raise_held once (x.high - size) b (omega (arith, long)) (omega (arith, long)) len_once is_b j
          (raise_held values x.low a (omega arith) long len is_a j (so_far.held j l));
      covered = λ r c. elim (among_next stretches k x r h (rw add-one at c)) [
        | inl before ↦ covered_grows (length old) size (slice_index values) (slice_index twice) r rises (so_far.covered r before)
        | inr e ↦ subst (λ (y : Stretch). IsCovered (length old) size (slice_index twice) y) (sym (e ∙ sym is)) both
      ];
    }

-- windows that were halved, and then raised by the stretches of their length, cover all stretches that are as long
pub windows_raised : (all some : List Stretch) (n size : ℕ) (values new : List ℕ) → length values ≡ n → AreOfLength all some size
    → AreWindows all n size (size + size) (slice_index values) → HasRaised some size values (length some) new → AreWindows all n size size (slice_index new)
windows_raised all some n size values new len are w raised = record {
  sound = λ j h. elim (raised.held j (omega (arith, h, len))) [
    | inl same ↦ rw same (w.sound j h)
    | inr (inl none) ↦ inl none
    | inr (inr (r, c, low, high, is)) ↦ inr (r, are.sound r c, low, high, is)
  ];
  complete = λ r c long. elim (cases_lt r.high (r.low + (size + size))) [
    | inl short ↦ subst (λ (m : ℕ). IsCovered m size (slice_index new) r) len
        (raised.covered r (subst (λ (xs : List Stretch). Contains xs r) (sym (take-length some)) (are.complete r c long short)))
    | inr longer ↦ covered_grows n size (slice_index values) (slice_index new) r raised.grows (w.complete r c longer)
  ];
}

-- no stretch is longer than all places
pub windows_none : (stretches : List Stretch) (n size : ℕ) (s : ℕ → ℕ) → n < size → ((r : Stretch) → Contains stretches r → r.high ≤ n)
    → ((j : ℕ) → j < n → s j ≡ 0) → AreWindows stretches n size size s
windows_none stretches n size s few inside zeros = record {
  sound = λ j h. inl (zeros j h);
  complete = λ r m l. absurd (omega (arith, l, few, inside r m));
}

-- windows of one place
pub windows_all : (stretches : List Stretch) (n : ℕ) (tops : List ℕ) → length tops ≡ n → AreWindows stretches n 1 1 (slice_index tops)
    → AreTops stretches n tops
windows_all stretches n tops len w = record {
  whole = len;
  above = λ r m v above below.
      (let p = w.complete r m (omega (arith, above, below)) v above below in
      let same : p.0 ≡ v = omega (arith, p.1, p.2) in
      omega (arith, p.4, ap (slice_index tops) same));
  reached = λ v h. elim (w.sound v h) [
    | inl z ↦ inl z
    | inr (r, m, a, b, q) ↦ inr (r, m, a, omega (arith, b), q)
  ];
}
