use Rattle.std.proofs.Common.{◌≡◌, ◌<◌, ℕ, length, Some, slice_get}
use Rattle.boc_cut.proofs.whole.whole_window.Given as goal

-- each row so far is the row of the stream that has its number
abbrev pub invariant-loop-number : goal.invariant-loop-number
invariant-loop-number l = (length l.origins.items ≡ l.number) × ((row : ℕ) → row < l.number → slice_get l.origins.items row ≡ Some (Some row))
