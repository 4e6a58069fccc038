use Rattle.std.proofs.Common.{◌∙◌, ap}
use Rattle.std.proofs.lemmas.Result.{IfOk-weaker}
use Rattle.std.specs.Prelude.{slice_index_or}
use Rattle.boc_names.specs.Names.{Text, texts_of}
use Rattle.boc_notes.specs.Notes.{note_of_named}
use Rattle.boc_notes.proofs.Naming.{noted_first}
use Rattle.boc_notes.proofs.told.+put_notes.Goals as goal

pub returns-in_ok-push-in-len1-up-clause-all : goal.returns-in_ok-push-in-len1-up-clause-all
returns-in_ok-push-in-len1-up-clause-all t c =
    IfOk-weaker c.put_notes.result _ _ (λ all more yes run are. noted_first (texts_of c.args.defs.now) c.args.cowns.now run c.args.rows.now c.args.told.now c.args.faulted.now
    c.args.notes.now.items c.push.new.self.items c.put_notes.new.notes.items c.in_ok-note_of-in-len1-up.field-0 c.in-Some.instance.now
    c.in-len1-up.len_at_least
    (c.in_ok-note_of-in-len1-up.ensures ∙ ap (λ (text : Text). note_of_named c.args.rows.now text (slice_index_or c.args.faulted.now 0 0))
    (c.deref.ensures.value ∙ c.in_ok-name-in-len1-up.ensures))
    c.in_ok-push-in-len1-up.ensures.items c.in-Some.ensures are (more yes run are))
    c.put_notes.ensures.all
