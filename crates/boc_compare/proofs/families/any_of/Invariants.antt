use Rattle.std.proofs.Common.{◌≡◌, drop}
use Rattle.std.specs.List.{list_any}
use Rattle.boc_compare.specs.Totalled.{is_of}
use Rattle.boc_compare.proofs.families.any_of.Given as goal

-- the cowns behind the first are still to come
abbrev pub invariant-loop-cown : goal.invariant-loop-cown
invariant-loop-cown l = list_any (is_of l.families l.family) (drop l.cown-index l.cowns) ≡ list_any (is_of l.families l.family) l.cowns
