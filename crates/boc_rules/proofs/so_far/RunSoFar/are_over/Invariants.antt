use Rattle.std.proofs.Common.{ℕ, ◌<◌, get_or}
use Rattle.std.specs.Prelude.{Option}
use Rattle.boc_rules.specs.Before.{IsOverAt}
use Rattle.boc_rules.specs.SoFar.{so_far}
use Rattle.boc_rules.proofs.so_far.RunSoFar.are_over.Given as goal

-- those so far are over
abbrev pub invariant-loop-row : goal.invariant-loop-row
invariant-loop-row l = (k : ℕ) (d : Option ℕ) → k < l.row-index → IsOverAt (so_far l.self) (get_or l.rows k d)
