use Rattle.std.proofs.Common.{ℕ, ◌<◌}
use Rattle.std.specs.Prelude.{slice_index}
use Rattle.boc_runs.specs.Rows.{cowns_of}
use Rattle.boc_plans.specs.Plans.{ConflictOn}
use Rattle.boc_order.proofs.check.conflict.Given as goal

-- no conflict on the cowns so far
abbrev pub invariant-loop-cown : goal.invariant-loop-cown
invariant-loop-cown l = (i : ℕ) → i < l.cown-index → ConflictOn l.rows (slice_index (cowns_of l.rows l.a) i) l.a l.b → ⊥
