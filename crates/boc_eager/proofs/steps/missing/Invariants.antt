use Rattle.std.proofs.Common.{ℕ, ◌<◌, ◌≤◌}
use Rattle.std.specs.Prelude.{slice_index}
use Rattle.boc_runs.specs.Rows.{cowns_of}
use Rattle.boc_eager.specs.Courses.{wait_of}
use Rattle.boc_eager.proofs.steps.missing.Given as goal

-- so far all is free
abbrev pub invariant-loop-cown : goal.invariant-loop-cown
invariant-loop-cown l = (i : ℕ) → i < l.cown-index → slice_index l.free (wait_of l.rows l.row (slice_index (cowns_of l.rows l.row) i)) ≤ l.tick
