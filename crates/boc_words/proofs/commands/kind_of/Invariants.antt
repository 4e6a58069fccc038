use Rattle.boc_words.proofs.Listed.{IsNoneUpTo}
use Rattle.boc_words.proofs.commands.kind_of.Given as goal

abbrev pub invariant-loop-kind : goal.invariant-loop-kind
invariant-loop-kind l = IsNoneUpTo l.name l.kind-items l.kind-index
