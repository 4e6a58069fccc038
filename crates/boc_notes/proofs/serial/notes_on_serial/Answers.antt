use Rattle.std.proofs.Common.{◌∷◌, codes, map, rules}
use Rattle.std.proofs.lemmas.Result.{IfOk-weaker}
use Rattle.boc_names.proofs.Counts.{few_declared}
use Rattle.boc_names.specs.Names.{named_cowns}
use Rattle.boc_notes.specs.Notes.{note_of_behaviour, noted}
use Rattle.boc_notes.proofs.Telling.{told_of_serial}
use Rattle.boc_notes.proofs.serial.notes_on_serial.Goals as goal

pub of-requires : goal.of-requires
of-requires c = few_declared c.args.program.now c.as_slice.result.now c.as_slice.ensures

pub returns : goal.returns
returns c =
    IfOk-weaker c.text_of.result _ _ (λ text is. told_of_serial (note_of_behaviour (codes "main" ∷ c.args.defs.now) (named_cowns c.args.program.now.cowns))
    c.args.faulted.now (map noted c.deref-2.result.now) text.items (search rules) is) c.text_of.ensures
