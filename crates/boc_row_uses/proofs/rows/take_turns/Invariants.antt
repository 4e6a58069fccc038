use Rattle.boc_row_uses.proofs.Turning.{Stands}
use Rattle.boc_row_uses.proofs.rows.take_turns.Given as goal

abbrev pub invariant-loop-row : goal.invariant-loop-row
invariant-loop-row l = Stands l.program l.rows l.row-index l.fn.values l.values l.fn.uses.items l.uses.items
