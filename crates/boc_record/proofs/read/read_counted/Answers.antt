use Rattle.std.proofs.Common.{◌∙◌, List, subst}
use Rattle.boc_runs.specs.Legal.{Entry}
use Rattle.boc_runs.specs.Records.{AreRowsOf}
use Rattle.boc_record.proofs.Known.{rows_given, counted_taken}
use Rattle.boc_record.proofs.read.read_counted.Goals as goal

pub returns-clause-counted_or_fault : goal.returns-clause-counted_or_fault
returns-clause-counted_or_fault g c =
    let run = c.in_ok-judge.ensures.run_or_fault in
    let given : AreRowsOf c.in_ok-judge.judge.rows c.unwrap.result =
    rows_given c.in_ok-judge.judge c.into_rows.result c.unwrap.result c.into_rows.ensures c.unwrap.ensures in
    let taken = counted_taken _ _ _ _ c.unwrap.result run (subst (λ (rows : List Entry). AreRowsOf rows c.unwrap.result) run.has given) in
    (taken.0, taken.1, taken.2, c.cowns-cowns.ensures.value ∙ taken.3)
