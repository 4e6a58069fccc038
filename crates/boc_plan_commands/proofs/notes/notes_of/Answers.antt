use Rattle.std.proofs.Common.{◌∙◌, ◌++◌, List, ap, subst, sym}
use Rattle.boc_run_commands.specs.Notes.{AreWanted}
use Rattle.boc_plan_commands.specs.LongNotes.{ArePlanNotes}
use Rattle.boc_plan_commands.proofs.notes.notes_of.Goals as goal

pub returns : goal.returns
returns g c input compared typical other looked =
    subst (λ quiet. AreWanted quiet (ArePlanNotes c.args.sharing compared typical input c.args.run.now.names c.args.run.now.rows)
    c.extend_from_slice.new.self.items) (sym c.if-quiet.false) (record {
      before = c.in_ok-notes.notes.items;
      before_are = c.in_ok-notes.ensures input compared other;
      long = c.in_ok-long.long.items;
      long_is = c.in_ok-long.ensures typical input looked;
      notes_are = c.in_ok-extend_from_slice.ensures.items ∙ ap (λ text. c.in_ok-notes.notes.items ++ text) c.deref.ensures.value;
    })
