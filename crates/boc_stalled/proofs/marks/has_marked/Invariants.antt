use Rattle.std.proofs.Common.{ℕ, ◌<◌, get_or}
use Rattle.boc_stalled.specs.Stalled.{IsMarked}
use Rattle.boc_stalled.proofs.marks.has_marked.Given as goal

-- none of the cowns so far is marked
abbrev pub invariant-loop-cown : goal.invariant-loop-cown
invariant-loop-cown l = (k : ℕ) → k < l.cown-index → IsMarked l.marks (get_or l.cowns k 0) → ⊥
