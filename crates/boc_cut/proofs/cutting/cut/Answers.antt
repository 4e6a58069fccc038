use Rattle.std.proofs.Common.{◌≤◌, ◌∙◌, ℕ, subst}
use Rattle.boc_stream.specs.LongLines.{to_come}
use Rattle.boc_stream.specs.declared.lines.TheConstants.{CAPACITY}
use Rattle.boc_cut.proofs.Windowing.{cuts_none, cuts_some, no_record_from_start, of_record, of_table, read_from_start, record_from_start}
use Rattle.boc_cut.proofs.cutting.cut.Goals as goal

pub returns-in-Ok-Some-clause-window : goal.returns-in-Ok-Some-clause-window
returns-in-Ok-Some-clause-window g c =
    let before = g.S.Source.remaining c.args.source.now in
    let rest = g.S.Source.remaining c.follow.new.source in
    let stream = c.new-stream.result in
    let table = c.new-table.result in
    let lines = c.follow.new.stream.lines in
    let end = c.follow.new.table in
    let window = c.in-Ok-Some.window in
    let cuts = cuts_some table.from table.asked c.in-Ok-Some.field-0 window (to_come stream.lines before) (to_come lines rest) table.rows.items end.rows.items
    table.uses.items end.uses.items c.in-Ok-Some.field-0-is c.in-Ok-Some.ensures.followed in
    of_record c.args.from c.args.rows before rest lines.buffered window.record window.origins.items
    (record_from_start window.record stream.lines.buffered before (to_come lines rest) c.new-stream.ensures.buffered cuts.0)
    (subst (λ (n : ℕ). n ≤ CAPACITY) c.ahead-few.ensures.value c.ahead-few.ensures.few) cuts.1

pub returns-in-Ok-clause-window : goal.returns-in-Ok-clause-window
returns-in-Ok-clause-window g c =
    let before = g.S.Source.remaining c.args.source.now in
    let rest = g.S.Source.remaining c.follow.new.source in
    let stream = c.new-stream.result in
    let table = c.new-table.result in
    let lines = c.follow.new.stream.lines in
    let end = c.follow.new.table in
    let window = c.in-Ok.window in
    let cuts = cuts_none table.from table.asked c.in-Ok-None.field-0 (to_come stream.lines before) (to_come lines rest) table.rows.items end.rows.items
    table.uses.items end.uses.items c.in-Ok-None.field-0-is c.in-Ok-None.ensures.followed in
    of_table c.args.from c.args.rows before rest lines.buffered window.record window.origins.items end.rows.items end.uses.items window.cowns.items
    (read_from_start stream.lines.buffered before (to_come lines rest) table.rows.items end.rows.items table.uses.items end.uses.items
    c.new-stream.ensures.buffered c.new-table.ensures.rows c.new-table.ensures.uses cuts.0)
    (subst (λ (n : ℕ). n ≤ CAPACITY) c.ahead-ahead.ensures.value c.ahead-ahead.ensures.few) c.in-Ok.ensures
    (λ f a. no_record_from_start stream.lines.buffered before c.new-stream.ensures.buffered
    (cuts.1 (c.new-table.ensures.from ∙ f) (c.new-table.ensures.asked ∙ a)))
