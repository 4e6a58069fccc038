use Rattle.std.proofs.Common.{ℕ, List, Ok, Err, subst}
use Rattle.boc_program.specs.declared.program.Program.{Program}
use Rattle.boc_reader.specs.FaultMeanings.{SaysOf}
use Rattle.boc_reader.specs.Spells.{Spells}
use Rattle.boc_reader.proofs.Spellings.{none_spelled, one_program}
use Rattle.boc_runs.specs.declared.rows.Row.{Row}
use Rattle.boc_plans.specs.Greedy.{IsSpan}
use Rattle.boc_plans.specs.Seen.{seen}
use Rattle.boc_timed.specs.declared.fault.TimedFault.{TimedFault}
use Rattle.boc_timed.specs.Timed.{IsTimed, RunsOut}
use Rattle.boc_run_commands.proofs.OneProgram.{same_program}
use Rattle.boc_run_commands.proofs.timed_note.timed_span.Goals as goal

pub returns-in_default : goal.returns-in_default
returns-in_default g c = λ (p : Program) (spells : Spells c.args.other.now.text.items p).
    absurd (none_spelled c.in-Err.fault.kind c.args.other.now.text.items p c.in_default.not-Memory
    (subst (λ (text : List ℕ). SaysOf c.in-Err.fault.kind text) c.deref.ensures.value c.in-Err.ensures.0) spells)

pub returns-in-Ok-timed_run : goal.returns-in-Ok-timed_run
returns-in-Ok-timed_run g c =
    let run = c.in-Ok-timed_run.run' in
    let compiled = subst (λ (p : Program). IsTimed p c.number-workers.result (Ok run)) c.in_ok-compiled.ensures c.in-Ok-timed_run.ensures.timed in
    record {
      program = c.in-Ok.program;
      spells = subst (λ (text : List ℕ). Spells text c.in-Ok.program) c.deref.ensures.value c.in-Ok.ensures;
      run = run;
      is = subst (λ (workers : ℕ). IsTimed c.in-Ok.program workers (Ok run)) c.number-workers.ensures.value compiled;
      span_is = subst (λ (rows : List Row). IsSpan (seen c.args.sharing rows) c.in_ok-span_of-in-Ok-timed_run.field-0) c.rows.ensures.value
          c.in_ok-span_of-in-Ok-timed_run.ensures;
    }

pub returns-in-Err-Behaviours : goal.returns-in-Err-Behaviours
returns-in-Err-Behaviours g c = λ (p : Program) (spells : Spells c.args.other.now.text.items p).
    let own : Spells c.args.other.now.text.items c.in-Ok.program =
    subst (λ (text : List ℕ). Spells text c.in-Ok.program) c.deref.ensures.value c.in-Ok.ensures in
    let same = same_program c.in-Ok.program p (one_program c.args.other.now.text.items c.in-Ok.program p own spells) in
    let ends = subst (λ (fault : TimedFault). IsTimed c.in_ok-compiled.compiled c.number-workers.result (Err fault)) c.in-Err-Behaviours.field-0-is
    c.in-Err-Behaviours.ensures.timed in
    let out = subst (λ (q : Program). RunsOut q c.number-workers.result) c.in_ok-compiled.ensures ends in
    subst (λ (q : Program). RunsOut q c.args.other.now.workers) same
    (subst (λ (workers : ℕ). RunsOut c.in-Ok.program workers) c.number-workers.ensures.value out)
