use Rattle.std.proofs.Common.{length}
use Rattle.boc_why_report.proofs.Listed.{told_below}
use Rattle.boc_why_report.proofs.lists.link_lines.Goals as goal

pub link_line-requires : goal.link_line-requires
link_line-requires c =
    told_below c.args.shares.now c.first_shares-listed.result.now (length c.args.links.now) c.loop-share.share-index _ c.requires
    c.first_shares-listed.ensures c.loop-share-test.true
