use Rattle.std.proofs.Common.{refl, List}
use Rattle.boc_names.specs.Names.{texts_of}
use Rattle.boc_compare.specs.declared.totals.Totals.{Totals}
use Rattle.boc_compare.specs.ByName.{unknown_before}
use Rattle.boc_compare.proofs.ByName.{PutSoFar}
use Rattle.boc_compare.proofs.pairs.put_new.Given as goal

-- those so far
abbrev pub invariant-loop-own : goal.invariant-loop-own
invariant-loop-own l =
    PutSoFar (λ (list : List Totals). unknown_before (texts_of l.names) list l.before) refl l.fn.pairs.items l.after l.own-index l.pairs.items
