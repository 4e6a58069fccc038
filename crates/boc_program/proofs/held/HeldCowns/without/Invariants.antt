use Rattle.std.proofs.Common.{◌≡◌, ◌<◌, ◌≤◌, take, length}
use Rattle.std.specs.Prelude.{All}
use Rattle.boc_program.specs.declared.limits.TheConstants.{MOST_COWNS}
use Rattle.boc_program.specs.Cowns.{others}
use Rattle.boc_program.proofs.held.HeldCowns.without.Given as goal

-- those of the cowns so far
abbrev pub invariant-loop-number : goal.invariant-loop-number
invariant-loop-number l = record {
  kept : l.kept.items ≡ others l.cown (take l.number-index l.number-items);
  small : All (λ c. c < MOST_COWNS) l.kept.items;
  few : length l.kept.items ≤ l.number-index;
}
