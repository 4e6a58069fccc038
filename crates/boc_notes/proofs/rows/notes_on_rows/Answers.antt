use Rattle.std.proofs.Common.{map, rules}
use Rattle.std.proofs.lemmas.Result.{IfOk-weaker}
use Rattle.boc_names.specs.Names.{texts_of}
use Rattle.boc_notes.specs.Notes.{note_of_row, noted}
use Rattle.boc_notes.proofs.Telling.{told_of_all}
use Rattle.boc_notes.proofs.rows.notes_on_rows.Goals as goal

pub returns : goal.returns
returns c =
    IfOk-weaker c.text_of.result _ _ (λ text is. told_of_all (note_of_row (texts_of c.args.called.now) c.args.rows.now) c.args.faulted.now
    (map noted c.deref.result.now) text.items (search rules) is) c.text_of.ensures
