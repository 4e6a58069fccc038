use Rattle.boc_why_report.proofs.lists.put_shares.Goals as goal

pub returns : goal.returns
returns c = rw (c.in_ok-table.ensures.sides, c.in_ok-table.ensures.lines) at c.put_table.ensures
