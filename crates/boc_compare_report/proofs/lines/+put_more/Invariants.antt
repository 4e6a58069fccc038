use Rattle.boc_compare_report.proofs.lines.+put_more.Given as goal

-- how many shares may be told yet
abbrev pub decreases-put_more : goal.decreases-put_more
decreases-put_more l = l.most
