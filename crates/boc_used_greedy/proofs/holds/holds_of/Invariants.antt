use Rattle.std.proofs.Common.{◌≡◌, ℕ, ◌<◌, ◌≤◌, length}
use Rattle.std.specs.Prelude.{slice_index, vec_capacity}
use Rattle.boc_turns.specs.Turns.{cowns_before}
use Rattle.boc_used_greedy.proofs.Holding.{AreHeldTo}
use Rattle.boc_used_greedy.proofs.holds.holds_of.Given as goal

-- the cowns of the rows so far are noted
abbrev pub invariant-loop-row : goal.invariant-loop-row
invariant-loop-row l = record {
  held : AreHeldTo l.rows l.uses l.relaxed l.row 0 l.all.items;
  room : length l.rows ≤ vec_capacity l.begins;
  whole : length l.begins.items ≡ l.row;
  begins : (r : ℕ) → r < l.row → slice_index l.begins.items r ≡ cowns_before l.rows r;
}

-- and the first cowns of this row
abbrev pub invariant-loop-place : goal.invariant-loop-place
invariant-loop-place l = AreHeldTo l.rows l.uses l.relaxed l.row l.place l.all.items
