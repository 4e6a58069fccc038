use Rattle.std.proofs.Common.{ℕ, ◌<◌, get_or}
use Rattle.boc_bars.specs.declared.bar.Bar.{Bar}
use Rattle.boc_bars.proofs.bar.lane_count.Given as goal

-- it is past the lanes so far
abbrev pub invariant-loop-bar : goal.invariant-loop-bar
invariant-loop-bar l = (k : ℕ) (d : Bar) → k < l.bar-index → (get_or l.bars k d).lane < l.count
