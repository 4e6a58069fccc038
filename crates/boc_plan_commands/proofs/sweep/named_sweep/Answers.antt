use Rattle.std.proofs.Common.{ℕ, subst}
use Rattle.boc_run_commands.specs.Commands.{CountsSource}
use Rattle.boc_run_commands.specs.NamedRuns.{RefusesRenamed}
use Rattle.boc_run_commands.proofs.Passed.{refuses_nothing}
use Rattle.boc_plan_commands.proofs.ToldParts.{sweep_named}
use Rattle.boc_plan_commands.proofs.sweep.named_sweep.Goals as goal

pub returns-clause-written : goal.returns-clause-written
returns-clause-written g c =
    sweep_named c.args.asked c.args.file.now c.in_ok-run.run' c.in_ok-measured.measured c.swept_run.result _ _ _ _ c.in_ok-run.ensures.read
    c.in_ok-measured.ensures c.swept_run.ensures.written

pub returns-clause-refused : goal.returns-clause-refused
returns-clause-refused g c =
    refuses_nothing (λ r. RefusesRenamed c.args.file.now r (g.S.Source.remaining c.args.source.now)) tt (λ w. tt) c.swept_run.result
    c.swept_run.ensures.refused

pub returns-clause-source : goal.returns-clause-source
returns-clause-source g c =
    subst (λ (n : ℕ). CountsSource c.swept_run.result n (g.S.Source.failures c.renamed_record.new.source)) c.in_ok-run.ensures.source
    (c.swept_run.ensures.source _)
