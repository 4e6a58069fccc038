use Rattle.std.proofs.Common.{ℕ, inl, inr, List, Err, subst}
use Rattle.boc_run_commands.specs.Commands.{CountsSource}
use Rattle.boc_run_commands.specs.NamedRuns.{HasRun}
use Rattle.boc_plan_commands.specs.ProgramInputs.{IsOfProgramRun, IsProgramRun, supplied_to}
use Rattle.boc_plan_commands.specs.WhatIfAnswers.{IsOfWhatIf, IsWhatIfAnswer, RefusesWhatIf}
use Rattle.boc_plan_commands.specs.declared.program_input.Supplied.{Supplied}
use Rattle.boc_plan_commands.proofs.ProgramRuns.{leaves_kept, leaves_program, none_taken, refused_program, refused_record, some_taken}
use Rattle.boc_plan_commands.proofs.ToldParts.{program_whatif, whatif_refused}
use Rattle.boc_plan_commands.proofs.whatif.whatif_cmd.Goals as goal

pub returns-in_default-clause-written : goal.returns-in_default-clause-written
returns-in_default-clause-written g c =
    leaves_kept _ _ c.record_whatif.result _ _ _ _ _ (none_taken c.in_ok-found.found _ _ c.in_default.is c.in_ok-found.ensures.taken).0
    (λ input output answer. inl (subst (λ (bytes : List ℕ). IsWhatIfAnswer c.args.file.now bytes c.args.asked.now.changes.now
    c.args.asked.now.sharing c.args.asked.now.plans c.args.asked.now.short input output) c.deref.ensures.value answer)) c.record_whatif.ensures.written

pub returns-in_default-clause-refused : goal.returns-in_default-clause-refused
returns-in_default-clause-refused g c =
    let none = none_taken c.in_ok-found.found _ _ c.in_default.is c.in_ok-found.ensures.taken in
    refused_record (λ result bytes. RefusesWhatIf c.args.file.now c.args.bytes.items c.args.asked.now.changes.now result bytes)
    (IsOfWhatIf g.G.Gate.always_on c.args.schedule (supplied_to c.args.file.now) c.args.bytes.items c.args.asked.now.changes.now)
    c.record_whatif.result (g.S.Source.remaining c.args.source.now) (g.S.Source.remaining c.program_taken.new.source)
    (g.S.Source.remaining c.record_whatif.new.source) none.1 none.0
    (subst (λ (bytes : List ℕ). RefusesWhatIf c.args.file.now bytes c.args.asked.now.changes.now c.record_whatif.result
    (g.S.Source.remaining c.program_taken.new.source)) c.deref.ensures.value c.record_whatif.ensures.refused)

pub returns-in_default-clause-source : goal.returns-in_default-clause-source
returns-in_default-clause-source g c =
    subst (λ (n : ℕ). CountsSource c.record_whatif.result n (g.S.Source.failures c.record_whatif.new.source)) c.in_ok-found.ensures.failures
    c.record_whatif.ensures.source

pub returns-clause-written : goal.returns-clause-written
returns-clause-written g c =
    leaves_program _ _ c.measured_report.result _ _ _ _ c.in-Some.text.items
    (some_taken c.in_ok-found.found c.in-Some.text _ _ c.in-Some.is c.in_ok-found.ensures.taken)
    c.in_ok-run.ensures.1 (λ output told. inr (program_whatif c.args.schedule (supplied_to c.args.file.now) c.args.bytes.items _ _ _ _
    c.in-Some.text.items c.in_ok-run.run' output
    (subst (λ (s : Supplied). HasRun (IsProgramRun c.args.schedule s c.args.bytes.items c.in-Some.text.items) c.in_ok-run.run')
    c.supplied_to.ensures c.in_ok-run.ensures.0) told))
    c.measured_report.ensures.written

pub returns-clause-refused : goal.returns-clause-refused
returns-clause-refused g c =
    whatif_refused g.G.Gate.always_on c.args.schedule (supplied_to c.args.file.now) c.args.bytes.items c.args.asked.now.changes.now
    (λ fault bytes. RefusesWhatIf {A = Unit {0}} c.args.file.now c.args.bytes.items c.args.asked.now.changes.now (Err fault) bytes) c.measured_report.result
    (g.S.Source.remaining c.args.source.now) (g.S.Source.remaining c.program_taken.new.source) c.in-Some.text.items c.in_ok-run.run'
    (some_taken c.in_ok-found.found c.in-Some.text _ _ c.in-Some.is c.in_ok-found.ensures.taken)
    (subst (λ (s : Supplied). HasRun (IsProgramRun c.args.schedule s c.args.bytes.items c.in-Some.text.items) c.in_ok-run.run')
    c.supplied_to.ensures c.in_ok-run.ensures.0) c.measured_report.ensures.refused

pub returns-clause-source : goal.returns-clause-source
returns-clause-source g c =
    subst (λ (n : ℕ). CountsSource c.measured_report.result n (g.S.Source.failures c.program_taken.new.source)) c.in_ok-found.ensures.failures
    (c.measured_report.ensures.source _)

pub returns-in_err-run-clause-refused : goal.returns-in_err-run-clause-refused
returns-in_err-run-clause-refused g c =
    refused_program (λ fault bytes. RefusesWhatIf {A = Unit {0}} c.args.file.now c.args.bytes.items c.args.asked.now.changes.now (Err fault) bytes)
    (IsOfWhatIf g.G.Gate.always_on c.args.schedule (supplied_to c.args.file.now) c.args.bytes.items c.args.asked.now.changes.now)
    _ c.in_err-run.field-0.0 _ _ c.in-Some.text.items c.from_residual-in_err-run.ensures.1
    (some_taken c.in_ok-found.found c.in-Some.text _ _ c.in-Some.is c.in_ok-found.ensures.taken) (inl
    (subst (λ (s : Supplied). IsOfProgramRun g.G.Gate.always_on c.args.schedule s c.args.bytes.items c.in-Some.text.items c.in_err-run.field-0.0)
    c.supplied_to.ensures c.in_err-run.ensures))
