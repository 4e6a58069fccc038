use Rattle.boc_why_report.proofs.short.+put_more.Given as goal

-- how many shares may be told yet
abbrev pub decreases-put_more : goal.decreases-put_more
decreases-put_more l = l.most
