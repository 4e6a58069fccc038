use Rattle.boc_stream.specs.LongLines.{to_come}
use Rattle.boc_cut.specs.Spawned.{LineSpawns}
use Rattle.boc_cut.proofs.Reaching.{found_line, given_same, line_read, on_both}
use Rattle.boc_cut.proofs.follow.Stream.advance.Goals as goal

pub returns-then-branch-clause-table : goal.returns-then-branch-clause-table
returns-then-branch-clause-table g c =
    let before = to_come c.args.self.now.lines (g.S.Source.remaining c.args.source.now) in
    let rest = g.S.Source.remaining c.next_line.new.source in
    let mid = c.next_line.new.self.lines in
    let new = c.take_line.new.self.lines in
    let old = c.args.table.now in
    let end = c.take_line.new.table in
    let given = found_line c.args.self.now.lines.is_over c.in_ok-next_line.field-0 mid.line before (to_come mid rest) c.if-branch.true
    c.in_ok-next_line.ensures.found in
    on_both c.take_line.result
    (λ (spawned : LineSpawns mid.line old.rows.items old.uses.items end.rows.items end.uses.items).
    line_read mid.line before (to_come new rest) old.rows.items end.rows.items old.uses.items end.uses.items
    (given_same mid.line before rest new mid c.take_line.ensures.lines given) spawned) c.take_line.ensures.table
