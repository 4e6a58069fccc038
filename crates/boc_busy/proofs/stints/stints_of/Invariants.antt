use Rattle.std.proofs.Common.{◌≡◌, ◌≤◌, ℕ, length, Some}
use Rattle.std.specs.Prelude.{slice_get, vec_capacity}
use Rattle.boc_busy.specs.declared.stints.Stint.{Stint}
use Rattle.boc_busy.specs.Stints.{IsStint}
use Rattle.boc_busy.proofs.stints.stints_of.Given as goal

-- the rows so far have their stints
abbrev pub invariant-loop-row : goal.invariant-loop-row
invariant-loop-row l = record {
  room : length l.starts ≤ vec_capacity l.stints;
  whole : length l.stints.items ≡ l.row;
  at : (k : ℕ) (s : Stint) → slice_get l.stints.items k ≡ Some s → IsStint l.starts l.ends l.workers k s;
}
