use Rattle.std.proofs.Common.{◌≡◌, ℕ, Bool, List, length, get_or, sym, ap, subst}
use Rattle.boc_report.specs.Texts.{served_line, served_lines, served_text}
use Rattle.boc_report.specs.ByLine.{lines_from}
use Rattle.boc_text.specs.Outgoing.{Puts}
use Rattle.boc_report.proofs.Lines.{served_by_line, zero_more}
use Rattle.boc_report.proofs.greedy_lines.put_rows.Goals as goal

-- what holds of the lines as they are formed holds of those of the rows
formed : (Is : List ℕ → Type 0) (starts ends workers : List ℕ) → length starts ≡ length ends → length starts ≡ length workers
    → Is (lines_from (λ i. served_line i (get_or starts i 0) (get_or ends i 0) (get_or workers i 0)) 0 (length starts)) → Is (served_lines 0 starts ends workers)
formed Is starts ends workers same crew is =
    subst Is (served_by_line (λ i. served_line i (get_or starts i 0) (get_or ends i 0) (get_or workers i 0)) 0 starts ends workers same crew
    (λ i. ap (λ (n : ℕ). served_line n (get_or starts i 0) (get_or ends i 0) (get_or workers i 0)) (zero_more i))) is

pub returns-clause-goes_on : goal.returns-clause-goes_on
returns-clause-goes_on g c =
    let p = c.args.served.now in
    let from = g.W.Sink.written c.args.sink.now in
    let to = g.W.Sink.written c.put_lines.new.sink in
    subst (λ (unplanned : Bool). Puts (served_text unplanned p.starts.now p.ends.now p.workers.now) c.put_lines.result c.args.out.now
    c.put_lines.new.out from to) (sym c.if-unplanned.false)
    (formed (λ bytes. Puts bytes c.put_lines.result c.args.out.now c.put_lines.new.out from to) p.starts.now p.ends.now p.workers.now p.same.0 p.same.1
    c.put_lines.ensures.goes_on)
