use Rattle.std.proofs.Common.{◌≡◌, ℕ, ◌<◌, get_or, arith}
use Rattle.boc_bars.proofs.bar.lane_count.Goals as goal

pub returns : goal.returns
returns c = λ k d below. c.loop-bar.invariant k d (omega (arith, below, c.loop-bar-test.false))
