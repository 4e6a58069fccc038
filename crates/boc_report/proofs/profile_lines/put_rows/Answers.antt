use Rattle.std.proofs.Common.{ℕ, Bool, List, codes, get_or, sym, ap, subst}
use Rattle.boc_report.specs.Texts.{plan_line, plan_lines, plan_text}
use Rattle.boc_text.specs.Outgoing.{Puts}
use Rattle.boc_text.proofs.Sending.{puts_then}
use Rattle.boc_report.proofs.ByLines.{put_stopped}
use Rattle.boc_report.proofs.Lines.{plan_by_line, zero_more}
use Rattle.boc_report.proofs.profile_lines.put_rows.Goals as goal

pub returns-in_err-put-clause-goes_on : goal.returns-in_err-put-clause-goes_on
returns-in_err-put-clause-goes_on g c =
    put_stopped (plan_text c.args.unplanned c.args.starts.now c.args.ends.now) c.from_residual.result _ c.args.out.now c.put.new.self _ _
    c.in_err-put.ensures.goes_on c.from_residual.ensures.1

pub returns-clause-goes_on : goal.returns-clause-goes_on
returns-clause-goes_on g c =
    let starts = c.args.starts.now in
    let ends = c.args.ends.now in
    let from = g.W.Sink.written c.args.sink.now in
    let at_rows = g.W.Sink.written c.put.new.sink in
    let to = g.W.Sink.written c.put_lines.new.sink in
    let lines = plan_by_line (λ i. plan_line i (get_or starts i 0) (get_or ends i 0)) 0 starts ends c.requires.lengths
    (λ i. ap (λ (n : ℕ). plan_line n (get_or starts i 0) (get_or ends i 0)) (zero_more i)) in
    subst (λ (unplanned : Bool). Puts (plan_text unplanned starts ends) c.put_lines.result c.args.out.now c.put_lines.new.out from to)
    (sym c.if-unplanned.false)
    (puts_then (codes "plan\n") (plan_lines 0 starts ends) c.put_lines.result c.args.out.now c.put.new.self c.put_lines.new.out from at_rows to
    c.in_ok-put.ensures.goes_on
    (subst (λ (bytes : List ℕ). Puts bytes c.put_lines.result c.put.new.self c.put_lines.new.out at_rows to) lines c.put_lines.ensures.goes_on))
