use Rattle.std.proofs.Common.{refl, List}
use Rattle.boc_names.specs.Names.{texts_of}
use Rattle.boc_compare.specs.declared.totals.Totals.{Totals}
use Rattle.boc_compare.specs.ByName.{known_after}
use Rattle.boc_compare.proofs.ByName.{PutSoFar}
use Rattle.boc_compare.proofs.pairs.put_before.Given as goal

-- those so far
abbrev pub invariant-loop-own : goal.invariant-loop-own
invariant-loop-own l =
    PutSoFar (λ (list : List Totals). known_after (texts_of l.names) list l.after) refl l.fn.pairs.items l.before l.own-index l.pairs.items
