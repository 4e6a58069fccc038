use Rattle.std.proofs.Common.{ap, length}
use Rattle.boc_table.specs.Tables.{Grid}
use Rattle.boc_why_report.proofs.Legs.{all_lines}
use Rattle.boc_why_report.proofs.chain.chain_table.Goals as goal

pub returns-clause-lines : goal.returns-clause-lines
returns-clause-lines c =
    let why = c.args.why.now in
    all_lines c.args.names.now c.deref.result.now why.profile.starts.items c.as_slice-steps.result.now why.profile.chain.steps.items
    c.as_slice-links.result.now why.links.items (length c.as_slice-steps.result.now) why.profile.span c.new-table.result.lines
    c.put_head.new.table.lines c.put_steps.new.table.lines c.put_foot.new.table.lines c.deref.ensures.value c.as_slice-steps.ensures.value
    c.as_slice-links.ensures.value c.requires.whole (ap length c.as_slice-steps.ensures.value) c.new-table.ensures.lines
    (ap (λ (t : Grid). t.lines) c.in_ok-put_head.ensures) (ap (λ (t : Grid). t.lines) c.in_ok-put_steps.ensures)
    (ap (λ (t : Grid). t.lines) c.in_ok-put_foot.ensures)
