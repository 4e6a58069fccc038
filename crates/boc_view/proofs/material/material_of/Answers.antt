use Rattle.std.proofs.Common.{ℕ, List, Option, subst, sym}
use Rattle.boc_run_commands.proofs.Passed.{passed_on}
use Rattle.boc_run_commands.specs.Measured.{workers_measured}
use Rattle.boc_run_commands.specs.TimedNotes.{IsNoteFor, IsOther, workers_compared}
use Rattle.boc_words.specs.declared.asked.AskedRuns.{AskedRuns}
use Rattle.boc_view.specs.Lines.{AreLinesFor}
use Rattle.boc_view.specs.Materials.{IsOfPicture, IsProgramShown, runs_shown, shows_costs, workers_shown}
use Rattle.boc_view.specs.Runs.{AreRunsShown}
use Rattle.boc_view.specs.declared.runs.RunsShown.{RunsShown}
use Rattle.boc_view.proofs.Refused.{of_run, of_runs}
use Rattle.boc_view.proofs.material.material_of.Goals as goal

pub returns-in_err-runs : goal.returns-in_err-runs
returns-in_err-runs g c =
    passed_on _ (IsOfPicture _ c.args.wanted.now c.args.beside.items c.args.text.items) _ _ c.from_residual-in_err-runs.ensures.1
    (of_runs _ c.args.wanted.now c.args.beside.items c.args.text.items c.deref-3.result.now _ c.in_err-runs.field-0.0 c.runs_shown.ensures
    c.deref-3.ensures.value c.in_err-runs.ensures)

pub returns-in_err-run : goal.returns-in_err-run
returns-in_err-run g c =
    passed_on _ (IsOfPicture _ c.args.wanted.now c.args.beside.items c.args.text.items) _ _ c.from_residual-in_err-run.ensures.1
    (of_run _ c.args.wanted.now c.args.beside.items c.args.text.items _ c.in_err-run.ensures)

pub returns : goal.returns
returns g c =
    let wanted = shows_costs c.args.wanted.now.picture in
    let shown = c.in_ok-program.program.items in
    let file = c.args.wanted.now.file in
    let typical = c.args.wanted.now.typical in
    let compared = workers_compared c.args.wanted.now.schedule (workers_measured typical (workers_shown c.args.wanted.now)) file in
    let measured = c.in_ok-measured.measured in
    let other : IsOther c.args.text.items compared c.in_ok-other.other =
    subst (λ (text : List ℕ). IsOther text compared c.in_ok-other.other) c.deref-2.ensures.value
    (subst (λ (workers : Option ℕ). IsOther c.deref-2.result.now (workers_compared c.args.wanted.now.schedule (workers_measured typical workers) file)
    c.in_ok-other.other) c.workers_shown.ensures
    (subst (λ (workers : Option ℕ). IsOther c.deref-2.result.now (workers_compared c.args.wanted.now.schedule workers file) c.in_ok-other.other)
    c.workers_measured-workers.ensures c.in_ok-other.ensures)) in
    let told : AreRunsShown (runs_shown c.args.wanted.now) c.args.text.items c.in_ok-runs.runs =
    subst (λ (text : List ℕ). AreRunsShown (runs_shown c.args.wanted.now) text c.in_ok-runs.runs) c.deref-3.ensures.value
    (subst (λ (asked : Option AskedRuns). AreRunsShown asked c.deref-3.result.now c.in_ok-runs.runs) c.runs_shown.ensures c.in_ok-runs.ensures) in
    let of_text = subst (λ (text : List ℕ). IsProgramShown wanted text shown) c.deref.ensures.value c.in_ok-program.ensures in (
      record {
        run = c.in_ok-run.run';
        has = c.in_ok-run.ensures.0;
        times = c.in_ok-run.ensures.2;
        measured = measured;
        is_measured = c.in_ok-measured.ensures;
        parts = c.in_ok-material.ensures.parts;
        note = subst (λ (bytes : List ℕ). IsNoteFor c.args.text.items compared c.args.wanted.now.sharing c.in_ok-run.run'.rows bytes)
            (sym c.in_ok-material.ensures.note) (c.in_ok-note.ensures c.args.text.items compared other);
        program = subst (λ (bytes : List ℕ). IsProgramShown wanted c.args.text.items bytes) (sym c.in_ok-material.ensures.program) of_text;
        lines = subst (λ (bytes : List ℕ). AreLinesFor bytes measured.rows c.in_ok-material.material.found c.in_ok-material.material.lines.items)
            (sym c.in_ok-material.ensures.program) c.in_ok-material.ensures.lines;
        runs = subst (λ (runs : Option RunsShown). AreRunsShown (runs_shown c.args.wanted.now) c.args.text.items runs) (sym c.in_ok-material.ensures.runs) told;
      },
      c.in_ok-run.ensures.1,
    )
