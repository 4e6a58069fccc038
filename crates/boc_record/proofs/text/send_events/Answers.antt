use Rattle.std.proofs.Common.{ℕ, List, ◌++◌, ◌∙◌, take, drop, append_assoc, length-drop, ap, subst, arith, rules}
use Rattle.std.proofs.lemmas.List.{take_all}
use Rattle.boc_text.specs.Streams.{StopsAt}
use Rattle.boc_record.specs.RecordTexts.{Second, event_lines}
use Rattle.boc_text.specs.Outgoing.{IsOut}
use Rattle.boc_text.proofs.Sending.{stopped_so}
use Rattle.boc_record.proofs.Sending.{lines_on, stops_within}
use Rattle.boc_record.proofs.text.send_events.Goals as goal

pub returns-in_err-put-clause-goes_on : goal.returns-in_err-put-clause-goes_on
returns-in_err-put-clause-goes_on g c = λ before start out.
    let events = c.args.events.now in
    let text = start ++ event_lines Second (take c.loop-first.first events) in
    stopped_so _ (λ s. StopsAt s.gone (start ++ event_lines Second events) before (g.W.Sink.written c.put.new.sink)) c.from_residual.result _
    c.from_residual.ensures.1
    (stops_within Second _ start events c.loop-first.first before _ (c.in_err-put.ensures.goes_on before text (c.loop-first.invariant.out before start out)))

pub loop-first-preserved : goal.loop-first-preserved
loop-first-preserved g c = record {
  within = omega arith;
  long = search rules;
  out = λ before start out.
      let events = c.args.events.now in
      let first = c.loop-first.first in
      let room = c.lines_before-begin.new.room in
      let begin = c.lines_before-begin.result in
      let text = start ++ event_lines Second (take first events) in
      subst (λ (text : List ℕ). IsOut before (g.W.Sink.written c.put.new.sink) text c.put.new.self)
      (ap (λ (l : List ℕ). text ++ l) (take_all _ (drop begin room) (omega (arith, length-drop begin room)) ∙ c.lines_before-begin.ensures.written)
      ∙ append_assoc start (event_lines Second (take first events)) _
      ∙ ap (λ (l : List ℕ). start ++ l) (lines_on Second events first _ (omega arith)))
      (c.in_ok-put.ensures.goes_on before text (c.loop-first.invariant.out before start out));
  size = omega (arith, c.in_ok-put.ensures.size, c.lines_before-begin.ensures.near.1);
  failures = c.in_ok-put.ensures.failures ∙ c.loop-first.invariant.failures;
}
