use Rattle.std.proofs.Common.{refl, arith}
use Rattle.boc_row_uses.proofs.Turning.{next_fits, next_stands}
use Rattle.boc_row_uses.proofs.rows.take_turns.Goals as goal

pub loop-row-init : goal.loop-row-init
loop-row-init c = record { many = c.requires.values; fit = c.requires.fit; turn = refl }

pub take_turn-requires-clause-fits : goal.take_turn-requires-clause-fits
take_turn-requires-clause-fits c =
    next_fits c.args.program.now c.args.rows.now c.loop-row.row-index c.args.values.now c.loop-row.values c.args.uses.now.items c.loop-row.uses.items
    c.loop-row.invariant c.row-item.result (omega arith) c.row-item.is

pub loop-row-preserved : goal.loop-row-preserved
loop-row-preserved c =
    next_stands c.args.program.now c.args.rows.now c.loop-row.row-index c.args.values.now c.loop-row.values c.args.uses.now.items c.loop-row.uses.items
    c.loop-row.invariant c.row-item.result (omega arith) c.row-item.is c.take_turn.new.values c.take_turn.new.uses.items c.take_turn.ensures.long
    c.in_ok-take_turn.ensures.values c.in_ok-take_turn.ensures.uses
