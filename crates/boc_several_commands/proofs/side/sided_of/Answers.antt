use Rattle.std.proofs.Common.{◌≡◌, ℕ, List, Vec, sym, subst}
use Rattle.std.specs.Global.{Global}
use Rattle.boc_names.specs.declared.names.Names.{Names}
use Rattle.boc_names.specs.Names.{texts_of}
use Rattle.boc_runs.specs.declared.rows.Row.{Row}
use Rattle.boc_run_commands.specs.Measured.{AreMeasured}
use Rattle.boc_run_commands.specs.NamedRuns.{IsNamedRun, IsOfNamedRun}
use Rattle.boc_run_commands.specs.Notes.{AreWanted, notes_of_rows}
use Rattle.boc_run_commands.proofs.MeasuredRuns.{measured_of}
use Rattle.boc_run_commands.proofs.Passed.{passed_on}
use Rattle.boc_run_commands.proofs.TakenRuns.{no_memory}
use Rattle.boc_several_commands.specs.Comparing.{TellsNamed}
use Rattle.boc_several_commands.proofs.side.sided_of.Goals as goal

pub returns : goal.returns
returns g c =
    let has = c.in_ok-run.ensures.0 in
    let called : Names = c.in_ok-run.run'.names in
    let measured = c.in_ok-measured.measured in
    let same : called ≡ measured.names = sym c.in_ok-measured.ensures.names_are in
    let quiet = c.args.asked.quiet in (
      record {
        recorded = has.recorded;
        run = subst (λ (n : Names). IsNamedRun c.args.asked.schedule c.args.file.now c.args.bytes.items c.args.text.items has.recorded n) same has.named;
        measured = measured.rows;
        measured_are = subst (λ (n : Names). AreMeasured c.args.asked.typical n.defs.items has.recorded.rows measured.rows) same
            (measured_of c.args.asked.typical (IsNamedRun c.args.asked.schedule c.args.file.now c.args.bytes.items c.args.text.items) c.in_ok-run.run'
            measured has c.in_ok-measured.ensures);
        side = c.in_ok-side.ensures;
        named = subst (λ (t : List ℕ). TellsNamed c.args.file.now t c.is_named-named.result) c.deref.ensures.value c.is_named-named.ensures;
        noted = subst (λ (n : Names). AreWanted quiet (λ told. told ≡ notes_of_rows (texts_of n.rows.items) has.recorded.rows) c.in_ok-notes.notes.items) same
            (subst (λ (rows : List Row). AreWanted quiet (λ told. told ≡ notes_of_rows (texts_of called.rows.items) rows) c.in_ok-notes.notes.items)
            has.rows_are (subst (λ (texts : List (Vec ℕ Global)). AreWanted quiet (λ told. told ≡ notes_of_rows (texts_of texts) c.in_ok-run.run'.rows)
            c.in_ok-notes.notes.items) c.deref-2.ensures.value c.in_ok-notes.ensures));
      },
      c.in_ok-run.ensures.1,
    )

pub returns-in_err-notes : goal.returns-in_err-notes
returns-in_err-notes g c =
    passed_on _ (IsOfNamedRun g.G.Gate.always_on c.args.asked.schedule c.args.file.now c.args.bytes.items c.args.text.items) _ _
    c.from_residual-in_err-notes.ensures.1 (no_memory g.G.Gate.always_on c.args.asked.schedule c.args.file.now c.args.bytes.items c.args.text.items)

pub returns-in_err-measured : goal.returns-in_err-measured
returns-in_err-measured g c =
    passed_on _ (IsOfNamedRun g.G.Gate.always_on c.args.asked.schedule c.args.file.now c.args.bytes.items c.args.text.items) _ _
    c.from_residual-in_err-measured.ensures.1 (no_memory g.G.Gate.always_on c.args.asked.schedule c.args.file.now c.args.bytes.items c.args.text.items)

pub returns-in_err-side : goal.returns-in_err-side
returns-in_err-side g c =
    passed_on _ (IsOfNamedRun g.G.Gate.always_on c.args.asked.schedule c.args.file.now c.args.bytes.items c.args.text.items) _ _
    c.from_residual-in_err-side.ensures.1 (no_memory g.G.Gate.always_on c.args.asked.schedule c.args.file.now c.args.bytes.items c.args.text.items)
