use Rattle.boc_advice_report.proofs.together.put_head.Goals as goal

pub returns-in-Some : goal.returns-in-Some
returns-in-Some c = rw c.in-Some.is c.put_line.ensures.ok

pub returns-in-None : goal.returns-in-None
returns-in-None c = rw c.in-None.is c.put_line-in-None.ensures.ok
