use Rattle.std.proofs.Common.{◌<◌, ℕ, length}
use Rattle.std.specs.Prelude.{slice_index}
use Rattle.boc_cut.specs.Windows.{HasCown}
use Rattle.boc_cut.proofs.origins.are_kept_of.Given as goal

abbrev pub invariant-loop-place : goal.invariant-loop-place
invariant-loop-place l =
    (place : ℕ) → place < l.place → (slice_index l.held place < length l.kept) × HasCown l.uses (slice_index l.kept (slice_index l.held place))
