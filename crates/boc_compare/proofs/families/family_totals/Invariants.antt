use Rattle.std.proofs.Common.{◌≡◌, map, take}
use Rattle.std.specs.Prelude.{All}
use Rattle.boc_compare.specs.Totalled.{IsOfFamily}
use Rattle.boc_compare.specs.declared.totals.Totals.{Totals}
use Rattle.boc_compare.proofs.families.family_totals.Given as goal

-- the families so far
abbrev pub invariant-loop-key : goal.invariant-loop-key
invariant-loop-key l = record {
  keys : map (λ (own : Totals). own.key) l.list.items ≡ take l.key-index l.key-items;
  each : All (IsOfFamily l.families l.cowns l.links l.weights) l.list.items;
}
