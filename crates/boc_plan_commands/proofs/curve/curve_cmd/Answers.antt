use Rattle.std.proofs.Common.{ℕ, inl, inr, Err, subst}
use Rattle.boc_run_commands.specs.Commands.{CountsSource, RefusesRecord}
use Rattle.boc_plan_commands.specs.ProgramInputs.{IsOfProgramRun, RefusesEither}
use Rattle.boc_run_commands.proofs.Passed.{refuses_nothing}
use Rattle.boc_plan_commands.proofs.ProgramRuns.{leaves_kept, leaves_program, none_taken, refused_program, refused_record, some_taken}
use Rattle.boc_plan_commands.proofs.ToldParts.{program_curve}
use Rattle.boc_plan_commands.proofs.curve.curve_cmd.Goals as goal

pub returns-in_default-clause-written : goal.returns-in_default-clause-written
returns-in_default-clause-written g c =
    leaves_kept _ _ c.record_curve.result _ _ _ _ _ (none_taken c.in_ok-found.found _ _ c.in_default.is c.in_ok-found.ensures.taken).0
    (λ input output answer. inl answer) c.record_curve.ensures.written

pub returns-in_default-clause-refused : goal.returns-in_default-clause-refused
returns-in_default-clause-refused g c =
    let none = none_taken c.in_ok-found.found _ _ c.in_default.is c.in_ok-found.ensures.taken in
    refused_record (λ result bytes. RefusesRecord result bytes)
    (IsOfProgramRun g.G.Gate.always_on c.args.asked.schedule c.args.supplied c.args.bytes.items)
    c.record_curve.result (g.S.Source.remaining c.args.source.now) (g.S.Source.remaining c.program_taken.new.source)
    (g.S.Source.remaining c.record_curve.new.source) none.1 none.0 c.record_curve.ensures.refused

pub returns-in_default-clause-source : goal.returns-in_default-clause-source
returns-in_default-clause-source g c =
    subst (λ (n : ℕ). CountsSource c.record_curve.result n (g.S.Source.failures c.record_curve.new.source)) c.in_ok-found.ensures.failures
    c.record_curve.ensures.source

pub returns-clause-written : goal.returns-clause-written
returns-clause-written g c =
    leaves_program _ _ c.curve_of.result _ _ _ _ c.in-Some.text.items
    (some_taken c.in_ok-found.found c.in-Some.text _ _ c.in-Some.is c.in_ok-found.ensures.taken)
    c.in_ok-run.ensures.1 (λ output told. inr (program_curve c.args.asked c.args.supplied c.args.bytes.items c.in-Some.text.items c.in_ok-run.run' _ output
    c.in_ok-run.ensures.0 c.in_ok-rows.ensures told)) c.curve_of.ensures.written

pub returns-clause-refused : goal.returns-clause-refused
returns-clause-refused g c =
    refuses_nothing (λ r. RefusesEither (λ fault bytes. RefusesRecord {A = Unit {0}} (Err fault) bytes)
    (IsOfProgramRun g.G.Gate.always_on c.args.asked.schedule c.args.supplied c.args.bytes.items)
    r (g.S.Source.remaining c.args.source.now) (g.S.Source.remaining c.program_taken.new.source)) tt (λ w. tt) c.curve_of.result
    c.curve_of.ensures.refused

pub returns-clause-source : goal.returns-clause-source
returns-clause-source g c =
    subst (λ (n : ℕ). CountsSource c.curve_of.result n (g.S.Source.failures c.program_taken.new.source)) c.in_ok-found.ensures.failures
    (c.curve_of.ensures.source _)

pub returns-in_err-run-clause-refused : goal.returns-in_err-run-clause-refused
returns-in_err-run-clause-refused g c =
    refused_program (λ fault bytes. RefusesRecord {A = Unit {0}} (Err fault) bytes)
    (IsOfProgramRun g.G.Gate.always_on c.args.asked.schedule c.args.supplied c.args.bytes.items)
    _ c.in_err-run.field-0.0 _ _ c.in-Some.text.items c.from_residual-in_err-run.ensures.1
    (some_taken c.in_ok-found.found c.in-Some.text _ _ c.in-Some.is c.in_ok-found.ensures.taken) c.in_err-run.ensures
