-- Offsets that are spread out or drawn together: they rise, and none passes the greater of its own and its share.
use Rattle.std.proofs.Common.{◌≡◌, inl, inr, ℕ, zero, suc, ◌+◌, ◌*◌, ◌<◌, ◌≤◌, max, List, length, ap, sym, subst, arith}
use Rattle.std.proofs.Math.Nat.{mul-le-mul_right}
use Rattle.std.proofs.lemmas.Bool.{cases_lt}
use Rattle.std.proofs.lemmas.Grind.{div_ceil_times}
use Rattle.boc_program.specs.declared.limits.TheConstants.{MOST_TICKS}
use Rattle.boc_runs.specs.declared.rows.Row.{Row}
use Rattle.boc_runs.specs.Rows.{IsRows, parent_of, offset_of, ticks_of}
use Rattle.boc_runs.specs.Changes.{part_of}
use Rattle.boc_runs.proofs.Scaling.{offset_low}
use Rattle.boc_typical.specs.Spread.{IsLastIn, IsOffset, spread}

-- what is less times a number is less
below_by : (a b t : ℕ) → a * t < b * t → a < b
below_by a b t h = elim (cases_lt a b) [
  | inl l ↦ l
  | inr g ↦ absurd (omega (arith, h, mul-le-mul_right t g))
]

-- a part of a number of ticks: no less than exact, and less than one more
part_up : (m t o : ℕ) → 0 < t → o * m ≤ part_of m t o * t
part_up m t o some = (div_ceil_times (o * m) t some).0

part_down : (m t o : ℕ) → 0 < t → part_of m t o * t < o * m + t
part_down m t o some = (div_ceil_times (o * m) t some).1

-- where less is to be taken, an offset is no later
drawn : (m t o : ℕ) → 0 < t → m ≤ t → part_of m t o ≤ o
drawn m t o some less =
    let low : o * m ≤ o * t = omega (arith, mul-le-mul_right o less) in
    let h : part_of m t o < o + 1 = below_by (part_of m t o) (o + 1) t (omega (arith, part_down m t o some, low)) in
    omega (arith, h)

-- where more is, offsets that rise stay apart
apart : (m t o q : ℕ) → 0 < t → t ≤ m → o < q → (part_of m t o < part_of m t q) × (o < part_of m t q)
apart m t o q some more l =
    let next : (o + 1) * m ≤ q * m = mul-le-mul_right m (let s : o + 1 ≤ q = omega (arith, l) in s) in
    let up : q * m ≤ part_of m t q * t = part_up m t q some in
    let own : (o + 1) * t ≤ (o + 1) * m = omega (arith, mul-le-mul_right (o + 1) more) in (
      below_by (part_of m t o) (part_of m t q) t (omega (arith, next, up, part_down m t o some, more)),
      below_by o (part_of m t q) t (omega (arith, next, up, own, some)),
    )

-- ---- the greater of two numbers

rises_by_own : (o q a b : ℕ) → o < q → a ≤ o → max o a < max q b
rises_by_own o q a b l low = omega (arith, l, low)

rises_by_share : (o q a b : ℕ) → a < b → o < b → max o a < max q b
rises_by_share o q a b l low = omega (arith, l, low)

low_after_none : (o s e : ℕ) → e ≡ 0 → 0 < o → max s (e + 1) ≤ max o s
low_after_none o s e none some = omega (arith, none, some)

low_after : (o s e f x : ℕ) → f ≡ e → f ≤ x → x < max o s → max s (e + 1) ≤ max o s
low_after o s e f x is low less = omega (arith, is, low, less)

both_low : (o s k m : ℕ) → o ≤ m → s ≤ k → k ≤ m → max o s ≤ m
both_low o s k m low also few = omega (arith, low, also, few)

pub le_through : (a b c : ℕ) → a ≤ b → b ≤ c → a ≤ c
le_through a b c l m = omega (arith, l, m)

-- ---- shares of offsets

-- the greater of an offset and its share rises with the offset
pub share_rises : (m t o q : ℕ) → 0 < t → o < q → max o (part_of m t o) < max q (part_of m t q)
share_rises m t o q some l = elim (cases_lt m t) [
  | inl less ↦ rises_by_own o q (part_of m t o) (part_of m t q) l (drawn m t o some (omega (arith, less)))
  | inr more ↦ (let both = apart m t o q some more l in rises_by_share o q (part_of m t o) (part_of m t q) both.0 both.1)
]

-- the share of an offset within the ticks is within those to be taken
pub share_within : (m t o : ℕ) → 0 < t → o ≤ t → part_of m t o ≤ m
share_within m t o some within =
    let low : o * m ≤ t * m = mul-le-mul_right m within in
    let h : part_of m t o < m + 1 = below_by (part_of m t o) (m + 1) t (omega (arith, part_down m t o some, low)) in
    omega (arith, h)

-- the share of an offset where the ticks stay is the offset
pub share_same : (t o : ℕ) → 0 < t → part_of t t o ≡ o
share_same t o some =
    let low : part_of t t o < o + 1 = below_by (part_of t t o) (o + 1) t (omega (arith, part_down t t o some)) in
    let high : o < part_of t t o + 1 = below_by o (part_of t t o + 1) t (omega (arith, part_up t t o some, some)) in
    omega (arith, low, high)

module _ (rows : List Row) (hr : IsRows rows) (middle : ℕ → ℕ) where
  -- the greater of a row's offset and its share
  abbrev pub most : ℕ → ℕ
  most b = max (offset_of rows b) (spread rows middle b)

  parent_ticks : (b : ℕ) → 0 < b → b < length rows → 0 < ticks_of rows (parent_of rows b)
  parent_ticks b some here = hr.ticks_low (parent_of rows b) (omega (arith, hr.parent_before b some here, here))

  most_rises : (a b : ℕ) → 0 < a → a < b → b < length rows → parent_of rows a ≡ parent_of rows b → most a < most b
  most_rises a b some before here same =
      let own : spread rows middle a ≡ part_of (middle (parent_of rows b)) (ticks_of rows (parent_of rows b)) (offset_of rows a) =
      ap (λ (p : ℕ). part_of (middle p) (ticks_of rows p) (offset_of rows a)) same in
      subst (λ (n : ℕ). max (offset_of rows a) n < most b) (sym own)
      (share_rises (middle (parent_of rows b)) (ticks_of rows (parent_of rows b)) (offset_of rows a) (offset_of rows b)
      (parent_ticks b (omega (arith, some, before)) here) (hr.offsets_rise a b some before here same))

  module _ (offset : ℕ → ℕ) where
    -- a row comes no later, if those before it don't
    pub no_later : (b elder : ℕ) → 0 < b → b < length rows → IsLastIn rows offset b (parent_of rows b) elder
        → ((a : ℕ) → 0 < a → a < b → offset a ≤ most a) → max (spread rows middle b) (elder + 1) ≤ most b
    no_later b elder some here l before = elim l.reached [
      | inl e ↦ low_after_none (offset_of rows b) (spread rows middle b) elder e (hr.offset_above b some here)
      | inr (a, above, less, same, is) ↦ low_after (offset_of rows b) (spread rows middle b) elder (offset a) (most a) is (before a above less)
          (most_rises a b above less here same)
    ]

    none_later : (n : ℕ) → n ≤ length rows → ((b : ℕ) → 0 < b → b < n → IsOffset rows middle offset b) → (k b : ℕ) → b < k → 0 < b → b < n
        → offset b ≤ most b
    none_later n within each zero b l some below = absurd (omega (arith, l))
    none_later n within each (suc k) b l some below =
        let own : IsOffset rows middle offset b = each b some below in
        subst (λ (o : ℕ). o ≤ most b) (sym own.is) (no_later b own.elder some (omega (arith, below, within)) own.elder_is
        (λ a above less. none_later n within each k a (omega (arith, less, l)) above (omega (arith, less, below))))

    pub offsets_low : (n : ℕ) → n ≤ length rows → ((b : ℕ) → 0 < b → b < n → IsOffset rows middle offset b) → (b : ℕ) → 0 < b → b < n
        → offset b ≤ most b
    offsets_low n within each b some below = none_later n within each (suc b) b (omega arith) some below

  -- and so its offset is within the limits
  pub most_low : ((r : ℕ) → r < length rows → middle r ≤ MOST_TICKS) → (b : ℕ) → 0 < b → b < length rows → most b ≤ MOST_TICKS
  most_low few b some here =
      let there : parent_of rows b < length rows = omega (arith, hr.parent_before b some here, here) in
      both_low (offset_of rows b) (spread rows middle b) (middle (parent_of rows b)) MOST_TICKS (offset_low rows hr b here)
      (share_within (middle (parent_of rows b)) (ticks_of rows (parent_of rows b)) (offset_of rows b) (parent_ticks b some here) (hr.ticks_cover b some here))
      (few (parent_of rows b) there)

-- there is one last child
pub one_last_in : (rows : List Row) (offset : ℕ → ℕ) (n p a b : ℕ) → IsLastIn rows offset n p a → IsLastIn rows offset n p b → a ≡ b
one_last_in rows offset n p a b l m = omega (arith, low a b l m, low b a m l)
  where
    low : (a b : ℕ) → IsLastIn rows offset n p a → IsLastIn rows offset n p b → a ≤ b
    low a b l m = elim l.reached [
      | inl e ↦ omega (arith, e)
      | inr (k, above, below, same, is) ↦ omega (arith, is, m.none_above k above below same)
    ]
