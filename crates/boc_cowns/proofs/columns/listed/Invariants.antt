use Rattle.boc_cowns.specs.Columns.{AreListed}
use Rattle.boc_cowns.proofs.columns.listed.Given as goal

-- the cowns so far
abbrev pub invariant-loop-cown : goal.invariant-loop-cown
invariant-loop-cown l = AreListed l.columns l.cown l.list.items
