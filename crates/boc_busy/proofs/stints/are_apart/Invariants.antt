use Rattle.std.proofs.Common.{◌≡◌, ◌<◌, ℕ, ◌+◌, Some}
use Rattle.std.specs.Prelude.{slice_get}
use Rattle.boc_busy.specs.declared.stints.Stint.{Stint}
use Rattle.boc_busy.specs.Stints.{IsApart}
use Rattle.boc_busy.proofs.stints.are_apart.Given as goal

-- the stints so far are apart
abbrev pub invariant-loop-place : goal.invariant-loop-place
invariant-loop-place l = (k : ℕ) (a b : Stint) → k + 1 < l.place → slice_get l.stints k ≡ Some a → slice_get l.stints (k + 1) ≡ Some b → IsApart a b
