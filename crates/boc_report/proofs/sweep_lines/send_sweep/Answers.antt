use Rattle.std.proofs.Common.{ℕ, ◌+◌, List, [], get_or, refl, subst}
use Rattle.boc_report.specs.Texts.{sweep_line, sweep_lines}
use Rattle.boc_text.specs.Outgoing.{IsOut}
use Rattle.boc_text.specs.Streams.{StopsAt}
use Rattle.boc_text.proofs.Sending.{stopped_so}
use Rattle.boc_report.proofs.Lines.{sweep_by_line}
use Rattle.boc_report.proofs.sweep_lines.send_sweep.Goals as goal

pub returns-in_err-put_lines-clause-sent : goal.returns-in_err-put_lines-clause-sent
returns-in_err-put_lines-clause-sent g c =
    let first = c.args.first in
    let spans = c.args.spans.now in
    let before = g.W.Sink.written c.args.sink.now in
    let after = g.W.Sink.written c.put_lines.new.sink in
    let lines = sweep_by_line (λ i. sweep_line (first + i) (get_or spans i 0)) first spans (λ i. refl) in
    stopped_so _ (λ s. StopsAt s.gone (sweep_lines first spans) before after) c.from_residual.result _ c.from_residual.ensures.1
    (subst (λ (bytes : List ℕ). StopsAt c.in_err-put_lines.field-0.0.gone bytes before after) lines
    (c.in_err-put_lines.ensures.goes_on before [] (c.requires.unused before)))

pub returns-clause-sent : goal.returns-clause-sent
returns-clause-sent g c =
    let first = c.args.first in
    let spans = c.args.spans.now in
    let before = g.W.Sink.written c.args.sink.now in
    let lines = sweep_by_line (λ i. sweep_line (first + i) (get_or spans i 0)) first spans (λ i. refl) in
    c.send.ensures.sent before (sweep_lines first spans)
    (subst (λ (bytes : List ℕ). IsOut before (g.W.Sink.written c.put_lines.new.sink) bytes c.put_lines.new.out) lines
    (c.in_ok-put_lines.ensures.goes_on before [] (c.requires.unused before)))
