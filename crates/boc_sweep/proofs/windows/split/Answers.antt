use Rattle.std.proofs.Common.{length}
use Rattle.std.specs.Prelude.{slice_index}
use Rattle.boc_sweep.proofs.Topping.{windows_halved, windows_raised}
use Rattle.boc_sweep.proofs.windows.split.Goals as goal

pub returns-clause-windows : goal.returns-clause-windows
returns-clause-windows c all inside are w =
    windows_raised all c.args.stretches.now (length c.args.values.now) c.args.size c.halve.new.values c.cover.new.values c.halve.ensures.len are
    (windows_halved all (length c.args.values.now) c.args.size (slice_index c.args.values.now) (slice_index c.halve.new.values) inside
    c.halve.ensures.low c.halve.ensures.high w)
    c.cover.ensures.raised
