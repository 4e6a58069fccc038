use Rattle.std.proofs.Common.{◌++◌, ◌∙◌, codes, ap}
use Rattle.boc_why_report.specs.ChainTexts.{chain_lines, chain_sides}
use Rattle.boc_why_report.proofs.Tables.{put_as}
use Rattle.boc_why_report.proofs.chain.chain_text.Goals as goal

pub returns : goal.returns
returns c =
    put_as c.put_table.new.text.items c.extend_from_slice.new.self.items (codes "chain\n") c.in_ok-table.table.sides chain_sides c.in_ok-table.table.lines
    (chain_lines c.args.names.now c.args.why.now)
    (c.in_ok-extend_from_slice.ensures.items ∙ ap (λ start. start ++ codes "chain\n") c.new-text.ensures.items)
    c.in_ok-table.ensures.sides c.in_ok-table.ensures.lines c.in_ok-put_table.ensures
