use Rattle.std.proofs.Common.{ℕ, Bool, List, ◌++◌, subst, arith}
use Rattle.boc_report.specs.Texts.{bound_line, number_line, served_text}
use Rattle.boc_text.specs.Outgoing.{Puts}
use Rattle.boc_text.proofs.Sending.{HasPut, put_puts, puts_more, puts_then, puts_stopped, stops_after, stops_early, room_end}
use Rattle.boc_report.specs.declared.greedy_lines.ServedRows.{ServedRows}
use Rattle.boc_report.specs.declared.greedy_lines.TheConstants.{MOST_FRAME}
use Rattle.boc_report.proofs.ByLines.{room_put, put_stopped}
use Rattle.boc_report.proofs.greedy_lines.put_served.Goals as goal

-- the parts of the text
abbrev head : List ℕ → ServedRows → List ℕ
head word p = number_line word p.p

abbrev rows : Bool → ServedRows → List ℕ
rows unplanned p = served_text unplanned p.starts.now p.ends.now p.workers.now

abbrev last : ServedRows → List ℕ
last p = bound_line p.ends_at p.bound

abbrev whole : List ℕ → Bool → ServedRows → List ℕ
whole word unplanned p = (head word p ++ rows unplanned p) ++ last p

pub returns-in_err-put-clause-goes_on : goal.returns-in_err-put-clause-goes_on
returns-in_err-put-clause-goes_on g c =
    put_stopped (whole c.args.word.now c.args.unplanned c.args.served.now) c.from_residual.result _ c.args.out.now c.put.new.self _ _
    c.in_err-put.ensures.goes_on c.from_residual.ensures.1

pub returns-in_err-put_rows-clause-goes_on : goal.returns-in_err-put_rows-clause-goes_on
returns-in_err-put_rows-clause-goes_on g c =
    let p = c.args.served.now in
    let from = g.W.Sink.written c.args.sink.now in
    let at_rows = g.W.Sink.written c.put.new.sink in
    let to = g.W.Sink.written c.put_rows.new.sink in
    let gone = c.in_err-put_rows.field-0.0.gone in
    puts_stopped (whole c.args.word.now c.args.unplanned p) c.from_residual-in_err-put_rows.result _ c.args.out.now c.put_rows.new.out from to
    c.from_residual-in_err-put_rows.ensures.1
    (stops_early (head c.args.word.now p ++ rows c.args.unplanned p) (last p) gone c.args.out.now from to
    (stops_after (head c.args.word.now p) (rows c.args.unplanned p) gone c.args.out.now c.put.new.self from at_rows to
    (room_put c.workers_before-begin.new.room (head c.args.word.now p) MOST_FRAME c.workers_before-begin.result c.args.out.now c.put.new.self from at_rows
    (omega arith) c.workers_before-begin.ensures.written c.in_ok-put.ensures.goes_on)
    c.in_err-put_rows.ensures.goes_on))

pub returns-clause-goes_on : goal.returns-clause-goes_on
returns-clause-goes_on g c =
    let p = c.args.served.now in
    let from = g.W.Sink.written c.args.sink.now in
    let at_rows = g.W.Sink.written c.put.new.sink in
    let at_last = g.W.Sink.written c.put_rows.new.sink in
    let to = g.W.Sink.written c.put-2.new.sink in
    let served : HasPut (head c.args.word.now p ++ rows c.args.unplanned p) c.args.out.now c.put_rows.new.out from at_last =
    puts_more (head c.args.word.now p) (rows c.args.unplanned p) c.args.out.now c.put.new.self c.put_rows.new.out from at_rows at_last
    (room_put c.workers_before-begin.new.room (head c.args.word.now p) MOST_FRAME c.workers_before-begin.result c.args.out.now c.put.new.self from at_rows
    (omega arith) c.workers_before-begin.ensures.written c.in_ok-put.ensures.goes_on)
    c.in_ok-put_rows.ensures.goes_on in
    let ending = room_end c.bound_before-begin.new.room _ MOST_FRAME c.bound_before-begin.result (omega arith) c.bound_before-begin.ensures.written in
    puts_then (head c.args.word.now p ++ rows c.args.unplanned p) (last p) c.put-2.result c.args.out.now c.put_rows.new.out c.put-2.new.self from at_last to served
    (subst (λ (bytes : List ℕ). Puts bytes c.put-2.result c.put_rows.new.out c.put-2.new.self at_last to) ending
    (put_puts _ c.put-2.result c.put_rows.new.out c.put-2.new.self at_last to c.put-2.ensures.goes_on))
