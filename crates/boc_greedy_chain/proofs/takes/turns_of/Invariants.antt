use Rattle.std.proofs.Common.{◌≡◌, ◌≤◌, ℕ, length, Some}
use Rattle.std.specs.Prelude.{slice_get, vec_capacity}
use Rattle.boc_greedy_chain.specs.declared.takes.Turn.{Turn}
use Rattle.boc_greedy_chain.proofs.ByStart.{IsTurn}
use Rattle.boc_greedy_chain.proofs.takes.turns_of.Given as goal

-- the rows so far have their turns
abbrev pub invariant-loop-row : goal.invariant-loop-row
invariant-loop-row l = record {
  room : length l.starts ≤ vec_capacity l.turns;
  whole : length l.turns.items ≡ l.row;
  at : (k : ℕ) (t : Turn) → slice_get l.turns.items k ≡ Some t → IsTurn l.starts l.workers k t;
}
