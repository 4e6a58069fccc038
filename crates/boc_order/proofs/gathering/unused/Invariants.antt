use Rattle.std.proofs.Common.{◌≡◌, ◌≤◌, length}
use Rattle.std.specs.Prelude.{vec_len, vec_capacity}
use Rattle.boc_program.specs.declared.limits.TheConstants.{MOST_COWNS}
use Rattle.boc_order.proofs.Using.{AreUnused}
use Rattle.boc_order.proofs.gathering.unused.Given as goal

-- so many cowns are unused, and there is room for all
abbrev pub invariant-loop : goal.invariant-loop
invariant-loop l = record {
  count : length l.uses.items ≡ l.counter;
  room : MOST_COWNS ≤ vec_capacity l.uses;
  same : vec_len l.uses ≡ l.counter;
  unused : AreUnused l.uses.items;
}
