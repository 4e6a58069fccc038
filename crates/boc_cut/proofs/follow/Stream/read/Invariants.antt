use Rattle.std.proofs.Common.{◌≡◌}
use Rattle.boc_stream.specs.LongLines.{to_come}
use Rattle.boc_cut.specs.Reading.{GoesOn}
use Rattle.boc_cut.proofs.follow.Stream.read.Given as goal

-- the lines so far were read, and no call has failed
abbrev pub invariant-loop : goal.invariant-loop
invariant-loop g l = (g.S.Source.failures l.source ≡ g.S.Source.failures l.fn.source)
    × GoesOn (to_come l.fn.self.lines (g.S.Source.remaining l.fn.source)) (to_come l.self.lines (g.S.Source.remaining l.source))
    l.fn.table.rows.items l.fn.table.uses.items l.table.rows.items l.table.uses.items
