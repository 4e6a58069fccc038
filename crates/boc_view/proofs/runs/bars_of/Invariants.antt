use Rattle.std.proofs.Common.{◌≡◌, map, take}
use Rattle.boc_view.specs.Runs.{shown_bar}
use Rattle.boc_view.proofs.runs.bars_of.Given as goal

-- what is there so far
abbrev pub invariant-loop-bin : goal.invariant-loop-bin
invariant-loop-bin l = l.bars.items ≡ map shown_bar (take l.bin-index l.bins)
