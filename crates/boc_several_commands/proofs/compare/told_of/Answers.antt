use Rattle.std.proofs.Common.{refl}
use Rattle.boc_several_commands.proofs.Compared.{both_told, told_of_both}
use Rattle.boc_several_commands.proofs.compare.told_of.Goals as goal

pub returns : goal.returns
returns c = (
  told_of_both c.args.asked c.args.before.now c.args.after.now _ c.in_ok-text.text.items c.in_ok-text.ensures (record {
    before_is = refl;
    before_names_are = refl;
    after_is = refl;
    after_names_are = refl;
    named_is = c.both_named.ensures;
    typical_is = refl;
    workers_are = c.count_of.ensures;
  }),
  both_told c.args.before.now c.args.after.now c.deref.result.now c.deref-2.result.now c.new-notes.result.items c.put_notes.new.notes.items
      c.put_notes-2.new.notes.items c.deref.ensures.value c.deref-2.ensures.value c.new-notes.ensures.items c.in_ok-put_notes.ensures
      c.in_ok-put_notes-2.ensures,
)
