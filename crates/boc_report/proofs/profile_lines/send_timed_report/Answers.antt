use Rattle.std.proofs.Common.{List, ℕ, Bool, [], ◌++◌}
use Rattle.std.specs.Prelude.{option_map}
use Rattle.boc_report.specs.Texts.{report_text}
use Rattle.boc_text.specs.Streams.{StopsAt}
use Rattle.boc_text.proofs.Sending.{stopped_so, stops_before}
use Rattle.boc_order.specs.declared.report.Profile.{Profile}
use Rattle.boc_report.specs.Parts.{part_of, timed_part}
use Rattle.boc_report.proofs.profile_lines.send_timed_report.Goals as goal

-- the text of the report itself
abbrev report : Bool → Profile → List ℕ
report unplanned p = report_text unplanned p.work p.span p.chain.steps.items p.starts.items p.ends.items

pub returns-in_err-put_profile-clause-sent : goal.returns-in_err-put_profile-clause-sent
returns-in_err-put_profile-clause-sent g c =
    let p = c.args.profile.now in
    let before = g.W.Sink.written c.args.sink.now in
    let part : List ℕ = part_of c.args.unplanned (option_map (λ x. x.now) c.args.greedy) in
    let timed : List ℕ = timed_part c.args.unplanned c.args.timed.now in
    stopped_so _ (λ s. StopsAt s.gone ((report c.args.unplanned p ++ part) ++ timed) before (g.W.Sink.written c.put_profile.new.sink))
    c.from_residual.result _ c.from_residual.ensures.1 (stops_before _ (report c.args.unplanned p ++ part) timed before _
    (stops_before _ (report c.args.unplanned p) part before _ (c.in_err-put_profile.ensures.goes_on before [] (c.requires.unused before))))

pub returns-in_err-put_part-clause-sent : goal.returns-in_err-put_part-clause-sent
returns-in_err-put_part-clause-sent g c =
    let p = c.args.profile.now in
    let before = g.W.Sink.written c.args.sink.now in
    let part : List ℕ = part_of c.args.unplanned (option_map (λ x. x.now) c.args.greedy) in
    let timed : List ℕ = timed_part c.args.unplanned c.args.timed.now in
    stopped_so _ (λ s. StopsAt s.gone ((report c.args.unplanned p ++ part) ++ timed) before (g.W.Sink.written c.put_part.new.sink))
    c.from_residual-in_err-put_part.result _ c.from_residual-in_err-put_part.ensures.1
    (stops_before _ (report c.args.unplanned p ++ part) timed before _
    (c.in_err-put_part.ensures.goes_on before (report c.args.unplanned p) (c.in_ok-put_profile.ensures.goes_on before [] (c.requires.unused before))))

pub returns-in_err-put_timed-clause-sent : goal.returns-in_err-put_timed-clause-sent
returns-in_err-put_timed-clause-sent g c =
    let p = c.args.profile.now in
    let before = g.W.Sink.written c.args.sink.now in
    let part : List ℕ = part_of c.args.unplanned (option_map (λ x. x.now) c.args.greedy) in
    let timed : List ℕ = timed_part c.args.unplanned c.args.timed.now in
    stopped_so _ (λ s. StopsAt s.gone ((report c.args.unplanned p ++ part) ++ timed) before (g.W.Sink.written c.put_timed.new.sink))
    c.from_residual-in_err-put_timed.result _ c.from_residual-in_err-put_timed.ensures.1
    (c.in_err-put_timed.ensures.goes_on before (report c.args.unplanned p ++ part)
    (c.in_ok-put_part.ensures.goes_on before (report c.args.unplanned p) (c.in_ok-put_profile.ensures.goes_on before [] (c.requires.unused before))))

pub returns-clause-sent : goal.returns-clause-sent
returns-clause-sent g c =
    let p = c.args.profile.now in
    let before = g.W.Sink.written c.args.sink.now in
    let part : List ℕ = part_of c.args.unplanned (option_map (λ x. x.now) c.args.greedy) in
    let timed : List ℕ = timed_part c.args.unplanned c.args.timed.now in
    c.send.ensures.sent before ((report c.args.unplanned p ++ part) ++ timed)
    (c.in_ok-put_timed.ensures.goes_on before (report c.args.unplanned p ++ part)
    (c.in_ok-put_part.ensures.goes_on before (report c.args.unplanned p) (c.in_ok-put_profile.ensures.goes_on before [] (c.requires.unused before))))
