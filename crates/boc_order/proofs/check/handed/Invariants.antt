use Rattle.std.proofs.Common.{ℕ, take}
use Rattle.boc_runs.specs.Rows.{cowns_of}
use Rattle.boc_plans.specs.Plans.{ConflictOn}
use Rattle.boc_order.proofs.HandedCowns.{AreThose}
use Rattle.boc_order.proofs.check.handed.Given as goal

-- those of the cowns so far on which the rows conflict
abbrev pub invariant-loop-own : goal.invariant-loop-own
invariant-loop-own l = AreThose (λ (c : ℕ). ConflictOn l.rows c l.a l.b) (take l.own-index (cowns_of l.rows l.a)) l.handed.items
