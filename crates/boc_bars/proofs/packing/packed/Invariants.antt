use Rattle.std.proofs.Common.{◌≡◌, take, map}
use Rattle.boc_bars.specs.Bars.{times_of}
use Rattle.boc_bars.specs.Packing.{IsSound}
use Rattle.boc_bars.proofs.packing.packed.Given as goal

-- the bars so far have lanes
abbrev pub invariant-loop-bar : goal.invariant-loop-bar
invariant-loop-bar l = (map times_of l.packing.bars.items ≡ map times_of (take l.bar-index l.bar-items)) × IsSound l.packing
