use Rattle.std.proofs.Common.{ℕ, rules, subst}
use Rattle.boc_run_commands.specs.Commands.{CountsSource, RefusesRecord}
use Rattle.boc_run_commands.proofs.Asked.{leaves_read}
use Rattle.boc_run_commands.proofs.Passed.{refuses_nothing}
use Rattle.boc_plan_commands.proofs.ToldParts.{curve_answer}
use Rattle.boc_plan_commands.proofs.curve.record_curve.Goals as goal

pub returns-clause-written : goal.returns-clause-written
returns-clause-written g c =
    let read = c.in_ok-rows.ensures.rows_or_fault in
    leaves_read _ _ c.curve_of.result _ _ _ _ read.1 (λ output told. curve_answer c.args.asked.sharing c.args.asked.most read.1.text read.0
    c.in_ok-rows.rows output read.1.text_of read.2 told) c.curve_of.ensures.written

pub returns-clause-refused : goal.returns-clause-refused
returns-clause-refused g c =
    refuses_nothing (λ r. RefusesRecord r (g.S.Source.remaining c.args.source.now)) tt (λ w. tt) c.curve_of.result c.curve_of.ensures.refused

pub returns-clause-source : goal.returns-clause-source
returns-clause-source g c =
    subst (λ (n : ℕ). CountsSource c.curve_of.result n (g.S.Source.failures c.read_rows.new.source)) c.in_ok-rows.ensures.failures
    (c.curve_of.ensures.source _)

pub returns-in_err-rows-clause-refused : goal.returns-in_err-rows-clause-refused
returns-in_err-rows-clause-refused g c = search rules
