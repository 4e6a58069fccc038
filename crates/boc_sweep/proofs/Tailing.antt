-- One row more gets its tails.
use Rattle.std.proofs.Common.{◌≡◌, ◌≢◌, ℕ, suc, ◌+◌, ◌-◌, ◌*◌, ◌<◌, ◌≤◌, ◌⊎◌, max, List, length, inl, inr, refl, ap, sym, ◌∙◌, subst, arith}
use Rattle.std.specs.Prelude.{slice_index, slice_set}
use Rattle.std.specs.List.{Contains}
use Rattle.std.proofs.lemmas.Bool.{cases_lt, cases_eq}
use Rattle.std.proofs.lemmas.List.{length-set, get_or-set_same, get_or-set_other}
use Rattle.boc_program.specs.declared.limits.TheConstants.{MOST_TICKS}
use Rattle.boc_runs.specs.declared.rows.Row.{Row}
use Rattle.boc_runs.specs.Rows.{IsRows, parent_of, offset_of, ticks_of}
use Rattle.boc_plans.specs.Plans.{IsChild}
use Rattle.boc_order.specs.Waits.{IsNear, HasWaits}
use Rattle.boc_order.proofs.Near.{has}
use Rattle.boc_sweep.specs.Links.{Node, start, stop, finish, IsNode, Links}
use Rattle.boc_sweep.specs.Cuts.{HasTails, tail_of}
use Rattle.boc_sweep.specs.Tails.{StartTight, TailsFrom}

-- row v passes its tail on to its parent and to the rows that it waits for
module _ (rows : List Row) (hr : IsRows rows) (s e s' e' : ℕ → ℕ) (v : ℕ) (there : v < length rows) (from : TailsFrom rows s e (suc v))
    (near_or : (a : ℕ) → IsNear rows a v ⊎ (IsNear rows a v → ⊥))
    (end_near : (a : ℕ) → IsNear rows a v → e' a ≡ max (e a) (s' v))
    (end_other : (a : ℕ) → (IsNear rows a v → ⊥) → e' a ≡ e a)
    (start_here : s' v ≡ max (s v) (ticks_of rows v + e v))
    (start_parent : 0 < v → s' (parent_of rows v) ≡ max (s (parent_of rows v)) (offset_of rows v + s' v))
    (start_other : (r : ℕ) → r ≢ v → (0 < v → r ≢ parent_of rows v) → s' r ≡ s r) where
  stays : (r : ℕ) → v ≤ r → e' r ≡ e r
  stays r h = end_other r (λ near. omega (arith, near.near.before, h))

  end_grows : (r : ℕ) → e r ≤ e' r
  end_grows r = elim (near_or r) [ inl near ↦ omega (arith, end_near r near) | inr isnt ↦ omega (arith, end_other r isnt) ]

  later : (r : ℕ) → v < r → s' r ≡ s r
  later r h = start_other r (λ e. omega (arith, e, h)) (λ above e. omega (arith, e, h, hr.parent_before v above there))

  is_parent : (r : ℕ) → ((0 < v) × (r ≡ parent_of rows v)) ⊎ (0 < v → r ≢ parent_of rows v)
  is_parent r = elim (cases_eq v 0) [
    | inl z ↦ inr (λ above. absurd (omega arith))
    | inr nz ↦ elim (cases_eq r (parent_of rows v)) [
      | inl q ↦ inl (omega arith, q)
      | inr nq ↦ inr (λ above. nq)
    ]
  ]

  grows : (r : ℕ) → s r ≤ s' r
  grows r = elim (cases_eq r v) [
    | inl q ↦ rw q (omega (arith, start_here))
    | inr nq ↦ elim (is_parent r) [
      | inl (above, q) ↦ rw q (omega (arith, start_parent above))
      | inr np ↦ omega (arith, start_other r nq np)
    ]
  ]

  spawned : (a b : ℕ) → IsChild rows a b → v ≤ b → offset_of rows b + s' b ≤ s' a
  spawned a b child h = elim (cases_eq b v) [
    | inl q ↦ (
        let above : 0 < v = omega (arith, q, child.not_main) in
        let is : parent_of rows v ≡ a = ap (parent_of rows) (sym q) ∙ child.parent in
        let p : s' a ≡ max (s (parent_of rows v)) (offset_of rows v + s' v) = ap s' (sym is) ∙ start_parent above in
        rw q (omega (arith, p)))
    | inr nq ↦ omega (arith, from.spawned a b child (omega arith), later b (omega arith), grows a)
  ]

  own : (r : ℕ) → v ≤ r → r < length rows → ticks_of rows r + e' r ≤ s' r
  own r h below = elim (cases_eq r v) [
    | inl q ↦ rw q (omega (arith, start_here, stays v (omega arith)))
    | inr nq ↦ omega (arith, from.own r (omega arith) below, later r (omega arith), stays r h)
  ]

  waits : (a b : ℕ) → v ≤ b → IsNear rows a b → s' b ≤ e' a
  waits a b h near = elim (cases_eq b v) [
    | inl q ↦ (let here : e' a ≡ max (e a) (s' v) = end_near a (subst (λ (x : ℕ). IsNear rows a x) q near) in rw q (omega (arith, here)))
    | inr nq ↦ omega (arith, from.waits a b (omega arith) near, later b (omega arith), end_grows a)
  ]

  -- a row whose tails stay
  tight_same : (r : ℕ) → r ≢ v → s' r ≡ s r → StartTight rows s e (suc v) r → StartTight rows s' e' v r
  tight_same r nv same (inl (h, z)) = inl (omega (arith, h, nv), same ∙ z)
  tight_same r nv same (inr (inl (h, q))) = inr (inl (omega (arith, h), omega (arith, q, same, stays r (omega (arith, h)))))
  tight_same r nv same (inr (inr (b, h, child, q))) = inr (inr (b, omega (arith, h), child, omega (arith, q, same, later b (omega (arith, h)))))

  tight_here : ticks_of rows v + e v < s v → StartTight rows s e (suc v) v → StartTight rows s' e' v v
  tight_here l (inl (h, z)) = absurd (omega (arith, z, l))
  tight_here l (inr (inl (h, q))) = absurd (omega (arith, h))
  tight_here l (inr (inr (b, h, child, q))) = inr (inr (b, omega (arith, h), child, omega (arith, q, l, start_here, later b (omega (arith, h)))))

  tight_v : StartTight rows s' e' v v
  tight_v = elim (cases_lt (ticks_of rows v + e v) (s v)) [
    | inl l ↦ tight_here l (from.tight_start v there)
    | inr g ↦ inr (inl (omega arith, omega (arith, start_here, stays v (omega arith), g)))
  ]

  tight_p : (r : ℕ) → r < length rows → r ≢ v → 0 < v → r ≡ parent_of rows v → StartTight rows s' e' v r
  tight_p r below nq above q =
      let up : s' r ≡ max (s r) (offset_of rows v + s' v) = rw q (start_parent above) in
      elim (cases_lt (offset_of rows v + s' v) (s r)) [
        | inl l ↦ tight_same r nq (omega (arith, up, l)) (from.tight_start r below)
        | inr g ↦ inr (inr (v, omega arith, record { not_main = above; there = there; parent = sym q }, omega (arith, up, g)))
      ]

  tight_start : (r : ℕ) → r < length rows → StartTight rows s' e' v r
  tight_start r below = elim (cases_eq r v) [
    | inl q ↦ rw q tight_v
    | inr nq ↦ elim (is_parent r) [
      | inl (above, q) ↦ tight_p r below nq above q
      | inr np ↦ tight_same r nq (start_other r nq np) (from.tight_start r below)
    ]
  ]

  -- an end whose tail stays
  end_same : (r : ℕ) → r < length rows → e' r ≡ e r → (e' r ≡ 0) ⊎ ((b : ℕ) × (v ≤ b) × IsNear rows r b × (s' b ≡ e' r))
  end_same r below same = elim (from.tight_end r below) [
    | inl z ↦ inl (same ∙ z)
    | inr (b, h, near, w) ↦ inr (b, omega (arith, h), near, omega (arith, later b (omega (arith, h)), w, same))
  ]

  tight_end : (r : ℕ) → r < length rows → (e' r ≡ 0) ⊎ ((b : ℕ) × (v ≤ b) × IsNear rows r b × (s' b ≡ e' r))
  tight_end r below = elim (near_or r) [
    | inr isnt ↦ end_same r below (end_other r isnt)
    | inl near ↦ elim (cases_lt (e r) (s' v)) [
      | inl l ↦ inr (v, omega arith, near, omega (arith, end_near r near, l))
      | inr g ↦ end_same r below (omega (arith, end_near r near, g))
    ]
  ]

  end_low : e v + (v + 1) * MOST_TICKS ≤ length rows * MOST_TICKS
  end_low = elim (from.tight_end v there) [
    | inl z ↦ omega (arith, z, there)
    | inr (b, h, near, w) ↦ omega (arith, w, h, from.low b near.there)
  ]

  here_low : s' v + v * MOST_TICKS ≤ length rows * MOST_TICKS
  here_low = omega (arith, start_here, from.low v there, end_low, hr.ticks_high v there)

  low : (r : ℕ) → r < length rows → s' r + r * MOST_TICKS ≤ length rows * MOST_TICKS
  low r below = elim (cases_eq r v) [
    | inl q ↦ rw q here_low
    | inr nq ↦ elim (is_parent r) [
      | inl (above, q) ↦ (
          let before : parent_of rows v < v = hr.parent_before v above there in
          rw q (omega (
            arith,
            before,
            start_parent above,
            here_low,
            from.low (parent_of rows v) (omega arith),
            hr.ticks_cover v above there,
            hr.ticks_high (parent_of rows v) (omega arith),
          )))
      | inr np ↦ omega (arith, start_other r nq np, from.low r below)
    ]
  ]

  pub tails_more : TailsFrom rows s' e' v
  tails_more = record { spawned = spawned; own = own; waits = waits; tight_start = tight_start; tight_end = tight_end; low = low }

-- before the last row
pub tails_none : (rows : List Row) (s e : ℕ → ℕ) (n : ℕ) → n ≡ length rows → ((r : ℕ) → r < length rows → s r ≡ 0) → ((r : ℕ) → r < length rows → e r ≡ 0)
    → TailsFrom rows s e n
tails_none rows s e n whole zeros zero_ends = record {
  spawned = λ a b child h. absurd (omega (arith, child.there, h, whole));
  own = λ r h below. absurd (omega (arith, below, h, whole));
  waits = λ a b h near. absurd (omega (arith, near.there, h, whole));
  tight_start = λ r below. inl (omega (arith, below, whole), zeros r below);
  tight_end = λ r below. inl (zero_ends r below);
  low = λ r below. omega (arith, zeros r below, below);
}

-- once all rows have theirs
module _ (rows : List Row) (hr : IsRows rows) (s e : List ℕ) (from : TailsFrom rows (slice_index s) (slice_index e) 0) where
  keeps : (x y : Node) (w : ℕ) → Links rows (IsNear rows) y x w → tail_of s e x + w ≤ tail_of s e y
  keeps (start b) (start a) w l = omega (arith, from.spawned a b l.0 (omega arith), l.1)
  keeps (stop b) (start a) w l = rw (l.1, l.2) (omega (arith, from.own a (omega arith) l.0))
  keeps finish (start a) w l = absurd l
  keeps (start b) (stop a) w l = omega (arith, from.waits a b (omega arith) l.0, l.1)
  keeps (stop b) (stop a) w l = absurd l
  keeps finish (stop a) w l = omega (arith, l.1)
  keeps x finish w l = absurd l

  tight_by : (a : ℕ) → a < length rows → StartTight rows (slice_index s) (slice_index e) 0 a →
      (x : Node) × (w : ℕ) × IsNode (length rows) x × Links rows (IsNear rows) (start a) x w × (tail_of s e x + w ≡ slice_index s a)
  tight_by a there (inl (h, z)) = absurd (omega (arith, h))
  tight_by a there (inr (inl (h, q))) = (stop a, ticks_of rows a, there, (there, refl, refl), omega (arith, q))
  tight_by a there (inr (inr (b, h, child, q))) = (start b, offset_of rows b, child.there, (child, refl), omega (arith, q))

  tight : (y : Node) → IsNode (length rows) y →
      (y ≡ finish) ⊎ ((x : Node) × (w : ℕ) × IsNode (length rows) x × Links rows (IsNear rows) y x w × (tail_of s e x + w ≡ tail_of s e y))
  tight (start a) there = inr (tight_by a there (from.tight_start a there))
  tight (stop a) there = elim (from.tight_end a there) [
    | inl z ↦ inr (finish, 0, tt, (there, refl), omega (arith, z))
    | inr (b, h, near, q) ↦ inr (start b, 0, near.there, (near, refl), omega (arith, q))
  ]
  tight finish there = inl refl

  pub tails_all : length s ≡ length rows → length e ≡ length rows → HasTails rows s e
  tails_all p q = record {
    starts_len = p;
    ends_len = q;
    tails = record { at_source = refl; keeps = keeps; tight = tight };
    low = λ r h. omega (arith, from.low r h, hr.not_many);
  }

-- the loop's step
pub tails_step : (rows : List Row) → IsRows rows → (v : ℕ) → v < length rows → (waits : List ℕ) → HasWaits rows v waits →
    (s e e' : List ℕ) → length s ≡ length rows → TailsFrom rows (slice_index s) (slice_index e) (suc v) →
    (tail up : ℕ) → tail ≡ max (slice_index e v + ticks_of rows v) (slice_index s v) →
    up ≡ max (tail + offset_of rows v) (slice_index (slice_set s v tail) (parent_of rows v)) →
    ((a : ℕ) → Contains waits a → slice_index e' a ≡ max (slice_index e a) tail) →
    ((a : ℕ) → (Contains waits a → ⊥) → slice_index e' a ≡ slice_index e a) →
    TailsFrom rows (slice_index (slice_set (slice_set s v tail) (parent_of rows v) up)) (slice_index e') v
tails_step rows hr v there waits has_waits s e e' ls from tail up is_tail is_up end_here end_other =
    tails_more rows hr (slice_index s) (slice_index e) (slice_index (slice_set (slice_set s v tail) (parent_of rows v) up)) (slice_index e') v there from
    near_or
    (λ a near. end_here a (has_waits.complete a near) ∙ ap (max (slice_index e a)) (sym here))
    (λ a isnt. end_other a (λ k. isnt (has_waits.sound a k)))
    (here ∙ is_tail ∙ (let flip : max (slice_index e v + ticks_of rows v) (slice_index s v)
    ≡ max (slice_index s v) (ticks_of rows v + slice_index e v) = omega arith in flip))
    parent
    other
  where
    near_or : (a : ℕ) → IsNear rows a v ⊎ (IsNear rows a v → ⊥)
    near_or a = elim (has waits a) [ inl k ↦ inl (has_waits.sound a k) | inr isnt ↦ inr (λ near. isnt (has_waits.complete a near)) ]

    at_v : slice_index (slice_set s v tail) v ≡ tail
    at_v = get_or-set_same s v tail 0 (omega (arith, ls, there))

    parent_low : parent_of rows v < length (slice_set s v tail)
    parent_low = elim (cases_eq v 0) [
      | inl z ↦ omega (arith, length-set s v tail, ls, there, ap (parent_of rows) z, hr.main_parent)
      | inr nz ↦ omega (arith, length-set s v tail, ls, there, hr.parent_before v (omega arith) there)
    ]

    at_p : slice_index (slice_set (slice_set s v tail) (parent_of rows v) up) (parent_of rows v) ≡ up
    at_p = get_or-set_same (slice_set s v tail) (parent_of rows v) up 0 parent_low

    here : slice_index (slice_set (slice_set s v tail) (parent_of rows v) up) v ≡ tail
    here = elim (cases_eq v (parent_of rows v)) [
      | inl q ↦ (
          let zero_v : v ≡ 0 = elim (cases_eq v 0) [ inl z ↦ z | inr nz ↦ absurd (omega (arith, q, hr.parent_before v (omega arith) there)) ] in
          let no_offset : offset_of rows v ≡ 0 = ap (offset_of rows) zero_v ∙ hr.main_offset in
          let same : slice_index (slice_set (slice_set s v tail) (parent_of rows v) up) v ≡ up =
          ap (slice_index (slice_set (slice_set s v tail) (parent_of rows v) up)) q ∙ at_p in
          let own : slice_index (slice_set s v tail) (parent_of rows v) ≡ tail = ap (slice_index (slice_set s v tail)) (sym q) ∙ at_v in
          omega (arith, same, is_up, own, no_offset))
      | inr nq ↦ get_or-set_other (slice_set s v tail) (parent_of rows v) v up 0 nq ∙ at_v
    ]

    parent : 0 < v → slice_index (slice_set (slice_set s v tail) (parent_of rows v) up) (parent_of rows v) ≡
        max (slice_index s (parent_of rows v)) (offset_of rows v + slice_index (slice_set (slice_set s v tail) (parent_of rows v) up) v)
    parent above =
        let before : parent_of rows v < v = hr.parent_before v above there in
        let ne : parent_of rows v ≢ v = λ q. omega (arith, q, before) in
        let old : slice_index (slice_set s v tail) (parent_of rows v) ≡ slice_index s (parent_of rows v) = get_or-set_other s v (parent_of rows v) tail 0 ne in
        omega (arith, at_p, here, is_up, old)

    other : (r : ℕ) → r ≢ v → (0 < v → r ≢ parent_of rows v) → slice_index (slice_set (slice_set s v tail) (parent_of rows v) up) r ≡ slice_index s r
    other r nv np = elim (cases_eq v 0) [
      | inl z ↦ (
          let ne : r ≢ parent_of rows v = λ q. nv (q ∙ ap (parent_of rows) z ∙ hr.main_parent ∙ sym z) in
          get_or-set_other (slice_set s v tail) (parent_of rows v) r up 0 ne ∙ get_or-set_other s v r tail 0 nv)
      | inr nz ↦ get_or-set_other (slice_set s v tail) (parent_of rows v) r up 0 (np (omega arith)) ∙ get_or-set_other s v r tail 0 nv
    ]

-- no number is too great
pub end_small : (rows : List Row) → (v : ℕ) → v < length rows → (s e : ℕ → ℕ) → TailsFrom rows s e (suc v)
    → e v + (v + 1) * MOST_TICKS ≤ length rows * MOST_TICKS
end_small rows v there s e from = elim (from.tight_end v there) [
  | inl z ↦ omega (arith, z, there)
  | inr (b, h, near, w) ↦ omega (arith, w, h, from.low b near.there)
]

pub back : (P : ℕ → Type 0) (n : ℕ) → 0 < n → P n → P (suc (n - 1))
back P n h p = let same : n ≡ suc (n - 1) = omega arith in subst P same p

-- an offset is as small as the ticks of the parent
pub offset_small : (rows : List Row) → IsRows rows → (v : ℕ) → v < length rows → offset_of rows v ≤ MOST_TICKS
offset_small rows hr v there = elim (cases_eq v 0) [
  | inl z ↦ rw z (omega (arith, hr.main_offset))
  | inr nz ↦ omega (arith, hr.ticks_cover v (omega arith) there, hr.ticks_high (parent_of rows v) (omega (arith, hr.parent_before v (omega arith) there)))
]
