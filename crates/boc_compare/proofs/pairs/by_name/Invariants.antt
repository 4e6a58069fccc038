use Rattle.boc_names.specs.Names.{texts_of}
use Rattle.boc_compare.proofs.ByName.{KnowsSoFar}
use Rattle.boc_compare.proofs.pairs.by_name.Given as goal

-- those so far
abbrev pub invariant-loop-own : goal.invariant-loop-own
invariant-loop-own l = KnowsSoFar (texts_of l.names) l.list l.own-index l.named
