use Rattle.std.proofs.Common.{arith}
use Rattle.boc_sweep.proofs.Spanning.{around_low}
use Rattle.boc_sweep.proofs.sweeping.least_base.Goals as goal

pub overflow_add-around : goal.overflow_add-around
overflow_add-around c = omega (
  arith,
  around_low c.args.rows.now c.requires.shape _ _ _ c.requires.placed _ _ c.requires.tails c.args.row c.requires.there c.index.result.now
      c.index-2.result.now c.index.ensures c.index-2.ensures,
)

pub overflow_add-around-then-least-ticks : goal.overflow_add-around-then-least-ticks
overflow_add-around-then-least-ticks c = omega (
  arith,
  around_low c.args.rows.now c.requires.shape _ _ _ c.requires.placed _ _ c.requires.tails c.args.row c.requires.there c.index.result.now
      c.index-2.result.now c.index.ensures c.index-2.ensures,
  c.from.ensures,
  c.ticks-ticks.type_inv,
)

pub overflow_add-around-then-around-from : goal.overflow_add-around-then-around-from
overflow_add-around-then-around-from c = omega (
  arith,
  around_low c.args.rows.now c.requires.shape _ _ _ c.requires.placed _ _ c.requires.tails c.args.row c.requires.there c.index.result.now
      c.index-2.result.now c.index.ensures c.index-2.ensures,
  c.from-then-around-from.ensures,
  c.least_ticks-least.type_inv,
)
