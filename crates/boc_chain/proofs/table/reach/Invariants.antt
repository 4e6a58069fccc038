use Rattle.std.proofs.Common.{◌+◌, ◌-◌, ◌≤◌, length, vec_capacity}
use Rattle.boc_chain.specs.Tables.{IsLonger}
use Rattle.boc_chain.proofs.table.reach.Given as goal

abbrev pub invariant-loop-table : goal.invariant-loop-table
invariant-loop-table g l = record { longer : IsLonger l.fn.table.items l.table.items; room : vec_capacity l.fn.table ≤ vec_capacity l.table }

abbrev pub decreases-loop-table : goal.decreases-loop-table
decreases-loop-table g l = l.slot + 1 - length l.table.items
