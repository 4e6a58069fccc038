-- Heaviest ways, and the links that cross a cut.
use Rattle.std.proofs.Common.{◌≡◌, ℕ, zero, suc, ◌+◌, ◌-◌, ◌<◌, ◌≤◌, inl, inr, ap, arith}
use Rattle.std.proofs.lemmas.Bool.{cases_lt}
use Rattle.boc_sweep.specs.Ways.{AreHeads, AreTails, ChangesAt, IsHeaviest}

-- heads are least among all that keeps the links into the nodes up to a cut
module _ {A : Type 0} (Is : A → Type 0) (rank : A → ℕ) (Link Other : A → A → ℕ → Type 0) (source : A) (head other : A → ℕ) (cut : ℕ)
    (rises : (x y : A) (w : ℕ) → Link x y w → rank x < rank y)
    (heads : AreHeads Is Link source head)
    (same : (x y : A) (w : ℕ) → rank y ≤ cut → Link x y w → Other x y w)
    (keeps : (x y : A) (w : ℕ) → Other x y w → other x + w ≤ other y) where
  below : (n : ℕ) (y : A) → Is y → rank y < n → rank y ≤ cut → head y ≤ other y
  below zero y i h k = absurd (omega (arith, h))
  below (suc n) y i h k = elim (heads.tight y i) [
    | inl e ↦ omega (arith, heads.at_source, ap head e)
    | inr (x, w, j, l, e) ↦ (
        let r : rank x < rank y = rises x y w l in
        omega (arith, e, below n x j (omega arith) (omega arith), keeps x y w (same x y w k l)))
  ]

  pub heads_least : (y : A) → Is y → rank y ≤ cut → head y ≤ other y
  heads_least y i k = below (suc (rank y)) y i (omega arith) k

module _ {A : Type 0} (Is : A → Type 0) (rank : A → ℕ) (Link Changed : A → A → ℕ → Type 0) (source last : A) (head tail changed : A → ℕ) (cut : ℕ)
    (inside : (x y : A) (w : ℕ) → Link x y w → Is x × Is y)
    (inside' : (x y : A) (w : ℕ) → Changed x y w → Is x × Is y)
    (rises : (x y : A) (w : ℕ) → Link x y w → rank x < rank y)
    (rises' : (x y : A) (w : ℕ) → Changed x y w → rank x < rank y)
    (top : (x : A) → Is x → rank x ≤ rank last)
    (is_last : Is last) (source_low : rank source ≤ cut) (last_high : cut < rank last)
    (heads : AreHeads Is Link source head) (tails : AreTails Is Link last tail) (heads' : AreHeads Is Changed source changed)
    (change : ChangesAt rank Link Changed cut) where
  -- before the cut nothing changes
  low : (x : A) → Is x → rank x ≤ cut → changed x ≡ head x
  low x i k = omega (
    arith,
    heads_least Is rank Link Changed source head changed cut rises heads change.to_low heads'.keeps x i k,
    heads_least Is rank Changed Link source changed head cut rises' heads' change.from_low heads.keeps x i k,
  )

  -- the tail behind the cut can be added to what comes before
  up : (n : ℕ) (y : A) → Is y → rank last - rank y < n → cut < rank y → changed y + tail y ≤ changed last
  up zero y i h k = absurd (omega (arith, h))
  up (suc n) y i h k = elim (tails.tight y i) [
    | inl e ↦ omega (arith, tails.at_source, ap tail e, ap changed e)
    | inr (z, w, j, l, e) ↦ (
        let r : rank y < rank z = rises y z w l in
        let t : rank z ≤ rank last = top z j in
        omega (arith, e, up n z j (omega arith) (omega arith), heads'.keeps y z w (change.to_high y z w k l)))
  ]

  -- whatever bounds the ways over the cut bounds all
  down : (most : ℕ) → ((x y : A) (w : ℕ) → rank x ≤ cut → cut < rank y → Changed x y w → head x + w + tail y ≤ most) →
      (n : ℕ) (y : A) → Is y → rank y < n → cut < rank y → changed y + tail y ≤ most
  down most bound zero y i h k = absurd (omega (arith, h))
  down most bound (suc n) y i h k = elim (heads'.tight y i) [
    | inl e ↦ absurd (omega (arith, ap rank e, source_low))
    | inr (x, w, j, l, e) ↦ (
        let r : rank x < rank y = rises' x y w l in
        elim (cases_lt cut (rank x)) [
          | inl high ↦ omega (arith, e, down most bound n x j (omega arith) high, tails.keeps y x w (change.from_high x y w high l))
          | inr g ↦ omega (arith, e, bound x y w (omega arith) k l, low x j (omega arith))
        ])
  ]

  -- THE CUT: with the links that cross it changed, the heaviest way weighs as much as the heaviest over the cut
  pub cut_heaviest : (most : ℕ) → IsHeaviest rank Changed head tail cut most → changed last ≡ most
  cut_heaviest most m =
      let x = m.reached.0 in
      let y = m.reached.1 in
      let w = m.reached.2 in
      let low_x : rank x ≤ cut = m.reached.3 in
      let high_y : cut < rank y = m.reached.4 in
      let l : Changed x y w = m.reached.5 in
      let i = inside' x y w l in
      let above : changed y + tail y ≤ changed last = up (suc (rank last - rank y)) y i.1 (omega arith) high_y in
      let under : changed last + tail last ≤ most = down most m.none_heavier (suc (rank last)) last is_last (omega arith) last_high in
      omega (arith, above, under, heads'.keeps x y w l, low x i.0 low_x, m.reached.6)

-- where nothing changes: each cut has a heaviest way over it, and that is as heavy as all
module _ {A : Type 0} (Is : A → Type 0) (rank : A → ℕ) (Link : A → A → ℕ → Type 0) (source last : A) (head tail : A → ℕ)
    (inside : (x y : A) (w : ℕ) → Link x y w → Is x × Is y)
    (rises : (x y : A) (w : ℕ) → Link x y w → rank x < rank y)
    (top : (x : A) → Is x → rank x ≤ rank last)
    (is_last : Is last) (heads : AreHeads Is Link source head) (tails : AreTails Is Link last tail) where
  -- no way is heavier than the head of the last node
  through : (n : ℕ) (y : A) → Is y → rank last - rank y < n → head y + tail y ≤ head last
  through zero y i h = absurd (omega (arith, h))
  through (suc n) y i h = elim (tails.tight y i) [
    | inl e ↦ omega (arith, tails.at_source, ap tail e, ap head e)
    | inr (z, w, j, l, e) ↦ (
        let r : rank y < rank z = rises y z w l in
        let t : rank z ≤ rank last = top z j in
        omega (arith, e, through n z j (omega arith), heads.keeps y z w l))
  ]

  pub none_over : (y : A) → Is y → head y + tail y ≤ head last
  none_over y i = through (suc (rank last - rank y)) y i (omega arith)

  -- a heaviest way to a node is one from the node before it
  before : (x y : A) (w : ℕ) → Is x → Link x y w → head x + w ≡ head y → head y + tail y ≡ head last → head x + tail x ≡ head last
  before x y w i l t e = omega (arith, t, e, tails.keeps y x w l, none_over x i)

  -- a heaviest way comes from the source
  back : (n : ℕ) (y : A) → Is y → rank y < n → head y + tail y ≡ head last → head source + tail source ≡ head last
  back zero y i h e = absurd (omega (arith, h))
  back (suc n) y i h e = elim (heads.tight y i) [
    | inl s ↦ omega (arith, e, ap head s, ap tail s)
    | inr (x, w, j, l, t) ↦ (let r : rank x < rank y = rises x y w l in back n x j (omega (arith, r, h)) (before x y w j l t e))
  ]

  pub tail_is_last : tail source ≡ head last
  tail_is_last = omega (arith, heads.at_source, back (suc (rank last)) last is_last (omega arith) (omega (arith, tails.at_source)))

  module _ (cut : ℕ) (source_low : rank source ≤ cut) (last_high : cut < rank last) where
    abbrev Crossed : Type 0
    Crossed = (x : A) × (y : A) × (w : ℕ) × (rank x ≤ cut) × (cut < rank y) × Link x y w × (head x + w + tail y ≡ head last)

    crossed : (n : ℕ) (y : A) → Is y → rank y < n → cut < rank y → head y + tail y ≡ head last → Crossed
    crossed zero y i h k e = absurd (omega (arith, h))
    crossed (suc n) y i h k e = elim (heads.tight y i) [
      | inl s ↦ absurd (omega (arith, ap rank s, source_low, k))
      | inr (x, w, j, l, t) ↦ (
          let r : rank x < rank y = rises x y w l in
          elim (cases_lt cut (rank x)) [
            | inl high ↦ crossed n x j (omega (arith, r, h)) high (before x y w j l t e)
            | inr g ↦ (x, y, w, omega (arith, g), k, l, omega (arith, t, e))
          ])
    ]

    pub cut_same : IsHeaviest rank Link head tail cut (head last)
    cut_same = record {
      none_heavier = λ x y w low high l. omega (arith, heads.keeps x y w l, none_over y ((inside x y w l).1));
      reached = crossed (suc (rank last)) last is_last (omega arith) last_high (omega (arith, tails.at_source));
    }
