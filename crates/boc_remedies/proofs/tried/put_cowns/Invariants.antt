use Rattle.std.proofs.Common.{◌≡◌, take}
use Rattle.std.specs.Prelude.{filter_map, slice_get}
use Rattle.boc_remedies.specs.Families.{joined}
use Rattle.boc_remedies.proofs.tried.put_cowns.Given as goal

-- the families of the cowns so far are in the set
abbrev pub invariant-loop-cown : goal.invariant-loop-cown
invariant-loop-cown l = l.set ≡ joined l.fn.set (filter_map (slice_get l.families) (take l.cown-index l.cowns))
