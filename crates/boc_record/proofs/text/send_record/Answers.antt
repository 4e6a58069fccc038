use Rattle.std.proofs.Common.{ℕ, List, [], ◌++◌, ◌∙◌, length, codes, ap, subst, rules, arith}
use Rattle.boc_runs.specs.declared.event.Event.{Event}
use Rattle.boc_record.specs.RecordTexts.{Second, line, header, event_lines, record_text}
use Rattle.boc_text.specs.Streams.{StopsAt}
use Rattle.boc_text.specs.Outgoing.{IsOut}
use Rattle.boc_record.specs.declared.text.TheConstants.{MOST_BYTES}
use Rattle.boc_text.proofs.Sending.{stops_before, stopped_so}
use Rattle.boc_record.proofs.Sending.{few_events, first_out, lines_out}
use Rattle.boc_record.proofs.text.send_record.Goals as goal

pub returns-in_err-put-clause-sent : goal.returns-in_err-put-clause-sent
returns-in_err-put-clause-sent g c =
    let r = c.args.record.now in
    let before = g.W.Sink.written c.args.sink.now in
    let text = record_text Second r.cowns r.events in
    stopped_so _ (λ s. StopsAt s.gone text before (g.W.Sink.written c.put.new.sink)) c.from_residual.result _ c.from_residual.ensures.1
    (stops_before _ [] text before _ (c.in_err-put.ensures.goes_on before [] (c.requires.unused before)))

pub send_events-requires-clause-few : goal.send_events-requires-clause-few
send_events-requires-clause-few g c = omega (arith, ap length c.events.ensures.value, few_events c.args.record.now c.events.ensures.run)

pub returns-in_err-send_events-clause-sent : goal.returns-in_err-send_events-clause-sent
returns-in_err-send_events-clause-sent g c =
    let r = c.args.record.now in
    let before = g.W.Sink.written c.args.sink.now in
    let head = line (header Second r.cowns) in
    let first : IsOut before (g.W.Sink.written c.put.new.sink) head c.put.new.self =
    first_out before _ r.cowns c.header_before-begin.new.room MOST_BYTES c.header_before-begin.result c.put.new.self (search rules)
    (c.header_before-begin.ensures.written ∙ ap (λ (n : ℕ). line (header Second n)) c.cowns.ensures.value)
    (c.in_ok-put.ensures.goes_on before [] (c.requires.unused before)) in
    stopped_so _ (λ s. StopsAt s.gone (record_text Second r.cowns r.events) before (g.W.Sink.written c.send_events.new.sink))
    c.from_residual-in_err-send_events.result _ c.from_residual-in_err-send_events.ensures.1
    (stops_before _ (head ++ event_lines Second r.events) (line (codes ".")) before _
    (subst (λ (events : List Event). StopsAt c.in_err-send_events.field-0.0.gone (head ++ event_lines Second events) before
    (g.W.Sink.written c.send_events.new.sink)) c.events.ensures.value (c.in_err-send_events.ensures.goes_on before head first)))

pub put-requires-2-clause-bound : goal.put-requires-2-clause-bound
put-requires-2-clause-bound g c = omega (
  arith,
  c.in_ok-send_events.ensures.size,
  ap length c.events.ensures.value,
  few_events c.args.record.now
      c.events.ensures.run,
)

pub returns-in_err-put-2-clause-sent : goal.returns-in_err-put-2-clause-sent
returns-in_err-put-2-clause-sent g c =
    let r = c.args.record.now in
    let before = g.W.Sink.written c.args.sink.now in
    stopped_so _ (λ s. StopsAt s.gone (record_text Second r.cowns r.events) before (g.W.Sink.written c.put-2.new.sink)) c.from_residual-in_err-put-2.result _
    c.from_residual-in_err-put-2.ensures.1
    (stops_before _ (line (header Second r.cowns) ++ event_lines Second r.events) (line (codes ".")) before _ (c.in_err-put-2.ensures.goes_on before _
    (lines_out before _ _ r.cowns _ r.events _ c.header_before-begin.new.room MOST_BYTES c.header_before-begin.result c.put.new.self c.send_events.new.text
    c.cowns.ensures.value c.events.ensures.value
    (search rules) c.header_before-begin.ensures.written (c.in_ok-put.ensures.goes_on before [] (c.requires.unused before))
    c.in_ok-send_events.ensures.goes_on)))

pub send-requires-clause-bound : goal.send-requires-clause-bound
send-requires-clause-bound g c =
    omega (
      arith,
      c.in_ok-put-2.ensures.size,
      c.in_ok-send_events.ensures.size,
      ap length c.events.ensures.value,
      few_events c.args.record.now
          c.events.ensures.run,
    )

pub returns-clause-sent : goal.returns-clause-sent
returns-clause-sent g c =
    let r = c.args.record.now in
    let before = g.W.Sink.written c.args.sink.now in
    c.send.ensures.sent before (record_text Second r.cowns r.events) (c.in_ok-put-2.ensures.goes_on before _
    (lines_out before _ _ r.cowns _ r.events _ c.header_before-begin.new.room MOST_BYTES c.header_before-begin.result c.put.new.self c.send_events.new.text
    c.cowns.ensures.value c.events.ensures.value
    (search rules) c.header_before-begin.ensures.written (c.in_ok-put.ensures.goes_on before [] (c.requires.unused before))
    c.in_ok-send_events.ensures.goes_on))
