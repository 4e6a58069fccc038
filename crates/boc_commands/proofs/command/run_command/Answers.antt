use Rattle.std.proofs.Common.{ℕ, List, Err, rules, subst, sym}
use Rattle.boc_words.specs.declared.words.Command.{Command}
use Rattle.boc_plan_commands.specs.declared.program_input.Supplied.{Supplied}
use Rattle.boc_run_commands.specs.Commands.{AnswersInput, Leaves, RefusesRecord}
use Rattle.boc_commands.specs.EveryCommand.{RefusesCommand}
use Rattle.boc_plan_commands.specs.ProgramInputs.{IsOfProgramRun, RefusesEither}
use Rattle.boc_plan_commands.specs.SweepAnswers.{RefusesSweep}
use Rattle.boc_several_commands.specs.CompareRuns.{IsCompareRunsAnswer, RefusesCompareRuns}
use Rattle.boc_commands.proofs.command.run_command.Goals as goal

pub returns-in-Run-clause-written : goal.returns-in-Run-clause-written
returns-in-Run-clause-written g c = search rules

pub returns-in-WhatIf-clause-written : goal.returns-in-WhatIf-clause-written
returns-in-WhatIf-clause-written g c = search rules

pub returns-in-Curve-clause-written : goal.returns-in-Curve-clause-written
returns-in-Curve-clause-written g c = search rules

pub returns-in-Why-clause-written : goal.returns-in-Why-clause-written
returns-in-Why-clause-written g c = rw c.in-Why.is c.why_cmd.ensures.written

pub returns-in-Cowns-clause-written : goal.returns-in-Cowns-clause-written
returns-in-Cowns-clause-written g c = rw c.in-Cowns.is c.cowns_cmd.ensures.written

pub returns-in-WhyRuns-clause-written : goal.returns-in-WhyRuns-clause-written
returns-in-WhyRuns-clause-written g c = rw c.in-WhyRuns.is c.why_runs_cmd.ensures.written

pub returns-in-CompareRuns-clause-written : goal.returns-in-CompareRuns-clause-written
returns-in-CompareRuns-clause-written g c =
    rw c.in-CompareRuns.is
    (subst (λ (bytes : List ℕ). Leaves (AnswersInput (IsCompareRunsAnswer c.in-CompareRuns.asked bytes) (g.S.Source.remaining c.args.source.now)
    (g.S.Source.remaining c.compare_runs_cmd.new.source)) c.compare_runs_cmd.result (g.W.Sink.written c.args.sink.now)
    (g.W.Sink.written c.compare_runs_cmd.new.sink)) c.deref-in-CompareRuns.ensures.value c.compare_runs_cmd.ensures.written)

pub returns-in-CompareRuns-clause-refused : goal.returns-in-CompareRuns-clause-refused
returns-in-CompareRuns-clause-refused g c =
    subst (λ (command : Command). RefusesCommand g.G.Gate.always_on command c.args.beside.items c.args.pair c.compare_runs_cmd.new.which c.compare_runs_cmd.result
    (g.S.Source.remaining c.args.source.now) (g.S.Source.remaining c.compare_runs_cmd.new.source)) (sym c.in-CompareRuns.is)
    (subst (λ (bytes : List ℕ). RefusesCompareRuns c.in-CompareRuns.asked bytes c.compare_runs_cmd.new.which c.compare_runs_cmd.result
    (g.S.Source.remaining c.args.source.now) (g.S.Source.remaining c.compare_runs_cmd.new.source)) c.deref-in-CompareRuns.ensures.value
    c.compare_runs_cmd.ensures.refused)

pub returns-in-Compare-clause-written : goal.returns-in-Compare-clause-written
returns-in-Compare-clause-written g c = rw c.in-Compare.is c.compare_cmd.ensures.written

pub returns-in-Outcomes-clause-written : goal.returns-in-Outcomes-clause-written
returns-in-Outcomes-clause-written g c = search rules

pub returns-in-Profile-clause-refused : goal.returns-in-Profile-clause-refused
returns-in-Profile-clause-refused g c =
    subst (λ (command : Command). RefusesCommand g.G.Gate.always_on command c.args.beside.items c.args.pair c.args.which.now c.profile_cmd.result (g.S.Source.remaining c.args.source.now)
    (g.S.Source.remaining c.profile_cmd.new.source)) (sym c.in-Profile.is)
    (subst (λ (s : Supplied). RefusesEither (λ fault bytes. RefusesRecord {A = Unit {0}} (Err fault) bytes)
    (IsOfProgramRun g.G.Gate.always_on c.in-Profile.asked.schedule s c.args.beside.items) c.profile_cmd.result (g.S.Source.remaining c.args.source.now)
    (g.S.Source.remaining c.profile_cmd.new.source)) c.supplied_record-supplied.ensures c.profile_cmd.ensures.refused)

pub returns-in-Curve-clause-refused : goal.returns-in-Curve-clause-refused
returns-in-Curve-clause-refused g c =
    subst (λ (command : Command). RefusesCommand g.G.Gate.always_on command c.args.beside.items c.args.pair c.args.which.now c.curve_cmd.result (g.S.Source.remaining c.args.source.now)
    (g.S.Source.remaining c.curve_cmd.new.source)) (sym c.in-Curve.is)
    (subst (λ (s : Supplied). RefusesEither (λ fault bytes. RefusesRecord {A = Unit {0}} (Err fault) bytes)
    (IsOfProgramRun g.G.Gate.always_on c.in-Curve.asked.schedule s c.args.beside.items) c.curve_cmd.result (g.S.Source.remaining c.args.source.now)
    (g.S.Source.remaining c.curve_cmd.new.source)) c.supplied_record-supplied-in-Curve.ensures c.curve_cmd.ensures.refused)

pub returns-in-Sweep-clause-refused : goal.returns-in-Sweep-clause-refused
returns-in-Sweep-clause-refused g c =
    subst (λ (command : Command). RefusesCommand g.G.Gate.always_on command c.args.beside.items c.args.pair c.args.which.now c.sweep_cmd.result (g.S.Source.remaining c.args.source.now)
    (g.S.Source.remaining c.sweep_cmd.new.source)) (sym c.in-Sweep.is)
    (subst (λ (s : Supplied). RefusesEither (λ fault bytes. RefusesSweep {A = Unit {0}} s c.args.beside.items (Err fault) bytes)
    (IsOfProgramRun g.G.Gate.always_on c.in-Sweep.asked.schedule s c.args.beside.items) c.sweep_cmd.result (g.S.Source.remaining c.args.source.now)
    (g.S.Source.remaining c.sweep_cmd.new.source)) c.supplied_by-supplied.ensures c.sweep_cmd.ensures.refused)

pub returns-in-WhatIf-clause-refused : goal.returns-in-WhatIf-clause-refused
returns-in-WhatIf-clause-refused g c =
    subst (λ (command : Command). RefusesCommand g.G.Gate.always_on command c.args.beside.items c.args.pair c.args.which.now c.whatif_cmd.result (g.S.Source.remaining c.args.source.now)
    (g.S.Source.remaining c.whatif_cmd.new.source)) (sym c.in-WhatIf.is)
    c.whatif_cmd.ensures.refused
