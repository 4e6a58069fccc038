use Rattle.boc_stream.specs.LongLines.{to_come}
use Rattle.boc_cut.proofs.Records.{begun_follows}
use Rattle.boc_cut.proofs.whole.follow_record.Goals as goal

pub returns-in-Some-clause-tried : goal.returns-in-Some-clause-tried
returns-in-Some-clause-tried g c =
    let old = c.args.table.now in
    let mid = c.begin.new.table in
    let end = c.follow_events.new in
    begun_follows c.in_ok-header.field-0 c.in-Some.header (to_come c.args.stream.now.lines (g.S.Source.remaining c.args.source.now))
    (to_come c.begin.new.stream.lines (g.S.Source.remaining c.begin.new.source)) (to_come end.stream.lines (g.S.Source.remaining end.source))
    old.rows.items mid.rows.items end.table.rows.items old.uses.items mid.uses.items end.table.uses.items c.follow_events.result c.in-Some.is
    c.in_ok-header.ensures.begun c.follow_events.ensures.tried
