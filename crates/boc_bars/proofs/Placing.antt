-- One more bar in a lane that is free.
use Rattle.std.proofs.Common.{◌≡◌, ℕ, ◌<◌, ◌≤◌, List, [], ◌∷◌, ◌++◌, length, get_or, set, arith, sym, subst, ⊎_elim}
use Rattle.std.specs.List.{All}
use Rattle.std.proofs.lemmas.Bool.{cases_eq}
use Rattle.std.proofs.lemmas.List.{get_or-set_same, get_or-set_other}
use Rattle.std.proofs.lemmas.List.Elements.{All-push}
use Rattle.std.proofs.lemmas.List.Quantifiers.{all_pairs_push}
use Rattle.boc_bars.specs.declared.bar.Bar.{Bar}
use Rattle.boc_bars.specs.Bars.{AreApart}

-- each bar has ended by the time that its lane is free
abbrev pub HaveEnded : List ℕ → List Bar → Type 0
HaveEnded free bars = All (λ b. b.end ≤ get_or free b.lane 0) bars

-- a lane that is free later leaves the bars of all lanes ended
later : (free : List ℕ) (lane tick : ℕ) → lane < length free → get_or free lane 0 ≤ tick → (l : ℕ) → get_or free l 0 ≤ get_or (set free lane tick) l 0
later free lane tick there on l = ⊎_elim
    (λ (same : l ≡ lane). subst (λ (m : ℕ). get_or free m 0 ≤ get_or (set free lane tick) m 0) (sym same)
    (rw (get_or-set_same free lane tick 0 there) on))
    (λ (other : l ≡ lane → ⊥). rw (get_or-set_other free lane l tick 0 other) (omega arith))
    (cases_eq l lane)

-- what holds of a bar that was placed
pub record Placed (bars : List Bar) (free now : List ℕ) (bar : Bar) (lane tick : ℕ) : Type 0 where
  pub there : lane < length now
  pub in_time : get_or now lane 0 ≤ bar.start
  pub stay : (l : ℕ) → get_or now l 0 ≡ get_or free l 0
  pub ended : bar.end ≤ tick
  pub later : get_or now lane 0 ≤ tick

pub still_apart : (bars : List Bar) (free now : List ℕ) (bar : Bar) (lane tick : ℕ) → Placed bars free now bar lane tick
    → AreApart bars → HaveEnded free bars → AreApart (bars ++ record bar { lane = lane } ∷ [])
still_apart bars free now bar lane tick h apart ended =
    all_pairs_push (λ a b. a.lane ≡ b.lane → a.end ≤ b.start) bars (record bar { lane = lane }) apart
    (λ k d below same. omega (
      arith,
      ended k d below,
      h.stay lane,
      h.in_time,
      same,
      subst (λ (l : ℕ). (get_or bars k d).end ≤ get_or free l 0) same (ended k d below),
    ))

pub still_ended : (bars : List Bar) (free now : List ℕ) (bar : Bar) (lane tick : ℕ) → Placed bars free now bar lane tick
    → HaveEnded free bars → HaveEnded (set now lane tick) (bars ++ record bar { lane = lane } ∷ [])
still_ended bars free now bar lane tick h ended =
    All-push (λ b. b.end ≤ get_or (set now lane tick) b.lane 0) bars (record bar { lane = lane })
    (λ k d below. omega (arith, ended k d below, h.stay (get_or bars k d).lane, later now lane tick h.there h.later (get_or bars k d).lane))
    (rw (get_or-set_same now lane tick 0 h.there) h.ended)
