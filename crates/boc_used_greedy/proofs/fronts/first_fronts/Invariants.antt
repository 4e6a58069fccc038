use Rattle.std.proofs.Common.{◌≡◌, ◌≤◌, length}
use Rattle.std.specs.Prelude.{vec_capacity}
use Rattle.boc_program.specs.declared.limits.TheConstants.{MOST_COWNS}
use Rattle.boc_used_greedy.specs.Fronts.{AreRowsOf}
use Rattle.boc_used_greedy.proofs.FirstFronts.{AreFrontsOf}
use Rattle.boc_used_greedy.proofs.fronts.first_fronts.Given as goal

-- the first cowns have their fronts
abbrev pub invariant-loop-cown : goal.invariant-loop-cown
invariant-loop-cown l = record {
  whole : length l.fronts.items ≡ l.cown;
  room : MOST_COWNS ≤ vec_capacity l.fronts;
  are : AreFrontsOf l.rows l.holds.all.items l.starts l.fronts.items;
  rows : AreRowsOf l.rows l.list.items;
}
