use Rattle.std.proofs.Common.{◌≡◌, true, map, rules}
use Rattle.boc_names.specs.Names.{member_text, texts_of}
use Rattle.boc_notes.specs.Notes.{note_of_row, noted}
use Rattle.boc_notes.proofs.Telling.{told_of_all}
use Rattle.boc_notes.proofs.told.notes_on_told.Goals as goal

pub returns : goal.returns
returns c = λ run are.
    let yes : c.in_ok-put_notes.field-0 ≡ true = search rules in
    let all = c.in_ok-put_notes.ensures.all yes run are in
    told_of_all (note_of_row (map (member_text (texts_of c.args.defs.now) c.args.cowns.now) run) c.args.rows.now) c.args.faulted.now (map noted c.deref.result.now) c.in_ok-text.text.items (search (rules, all))
    c.in_ok-text.ensures
