use Rattle.std.proofs.Common.{◌≡◌, ℕ, ◌<◌, ◌≤◌, length}
use Rattle.std.specs.Prelude.{slice_index, vec_capacity}
use Rattle.boc_order.specs.Waits.{links_of}
use Rattle.boc_greedy.proofs.frontier.Frontier.new.Given as goal

-- nothing is over that the rows so far wait for
abbrev pub invariant-loop-row : goal.invariant-loop-row
invariant-loop-row l = record {
  room : l.count ≤ vec_capacity l.unmet;
  whole : length l.unmet.items ≡ l.row;
  counts : (r : ℕ) → r < l.row → slice_index l.unmet.items r ≡ length (links_of l.waits r);
}
