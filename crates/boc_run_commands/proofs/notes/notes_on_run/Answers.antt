use Rattle.std.proofs.Common.{◌≡◌, ◌∙◌, map, ap, rules}
use Rattle.std.proofs.lemmas.Result.{IfOk-weaker}
use Rattle.boc_notes.specs.Notes.{faulted_rows, note_of_row, notes_text}
use Rattle.boc_run_commands.specs.Notes.{notes_of_rows, run_names}
use Rattle.boc_run_commands.proofs.Noting.{loud}
use Rattle.boc_run_commands.proofs.notes.notes_on_run.Goals as goal

pub returns : goal.returns
returns g c =
    let defs = c.deref.ensures.value ∙ c.in_ok-defs.ensures in
    let same_rows : c.as_slice.result.now ≡ c.args.recorded.now.rows = search rules in
    let faulted = c.deref-2.ensures.value ∙ c.in_ok-faulted.ensures ∙ ap faulted_rows same_rows in
    IfOk-weaker c.notes_on_faulted.result _ _ (λ notes is. loud c.args.quiet
    (λ text. text ≡ notes_of_rows (run_names c.args.program.now (map (λ d. d.name) c.args.defs.items) c.args.recorded.now.events) c.args.recorded.now.rows)
    notes.items c.if-quiet.false
    (is ∙ (λ i. notes_text (map (note_of_row (run_names c.args.program.now (defs i) c.args.recorded.now.events) c.args.recorded.now.rows) (faulted i)))))
    c.notes_on_faulted.ensures
