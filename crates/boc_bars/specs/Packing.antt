-- Bars that get their lanes one after the other.
use Rattle.std.specs.Prelude.{◌≡◌, ℕ, ◌≤◌, ◌++◌, ◌∷◌, [], List, All, get_or}
use Rattle.boc_bars.specs.declared.bar.Bar.{Bar}
use Rattle.boc_bars.specs.declared.packing.Packing.{Packing}
use Rattle.boc_bars.specs.Bars.{AreApart}

-- bars of one lane are apart, and each lane is free once its bars have ended
pub record IsSound (packing : Packing) : Type 0 where
  pub apart : AreApart packing.bars.items
  pub ended : All (λ b. b.end ≤ get_or packing.free.items b.lane 0) packing.bars.items

-- one more bar has a lane, and bars that were apart still are
pub record Places (before : Packing) (bar : Bar) (after : Packing) : Type 0 where
  pub lane : ℕ
  pub bars : after.bars.items ≡ before.bars.items ++ record bar { lane = lane } ∷ []
  pub sound : IsSound before → IsSound after
