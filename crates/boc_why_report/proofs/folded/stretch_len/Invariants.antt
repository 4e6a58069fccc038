use Rattle.std.proofs.Common.{◌≡◌, ℕ, ◌+◌, ◌-◌, ◌<◌, ◌≤◌, length}
use Rattle.std.specs.Prelude.{slice_index_or}
use Rattle.boc_plans.specs.declared.chain.ChainStep.{ChainStep}
use Rattle.boc_why.specs.Shares.{def_of}
use Rattle.boc_why_report.proofs.folded.stretch_len.Given as goal

-- each of the steps so far is of the same def as the one before it
abbrev pub invariant-loop-end : goal.invariant-loop-end
invariant-loop-end l = record {
  some : 0 < l.end;
  within : l.end ≤ length l.steps;
  together : (k : ℕ) (s : ChainStep) → k + 1 < l.end
      → def_of l.names.defs.items (slice_index_or l.steps k s).row ≡ def_of l.names.defs.items (slice_index_or l.steps (k + 1) s).row;
}

abbrev pub decreases-loop-end : goal.decreases-loop-end
decreases-loop-end l = length l.steps - l.end
