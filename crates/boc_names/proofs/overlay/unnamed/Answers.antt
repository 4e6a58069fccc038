use Rattle.std.proofs.Common.{◌∙◌, sym, arith, refl}
use Rattle.std.proofs.lemmas.List.{length_push}
use Rattle.boc_names.specs.Names.{texts_of}
use Rattle.boc_names.proofs.Groups.{texts_push}
use Rattle.boc_names.proofs.Overlays.{none_push, unnamed_next, group_next}
use Rattle.boc_names.proofs.overlay.unnamed.Goals as goal

pub loop-text-preserved : goal.loop-text-preserved
loop-text-preserved c =
    let i = c.loop-text.invariant in
    rw c.in_ok-push.ensures.items (record {
      place_is = omega (arith, i.place_is, length_push c.loop-text.yielded c.in-Some.text);
      texts_are = unnamed_next _ (texts_of c.loop-text.yielded) _ _ i.texts_are refl ∙ sym (texts_push c.loop-text.yielded c.in-Some.text _ refl);
      groups_are = group_next _ (texts_of c.args.names.now) c.args.numbers.now c.loop-text.place _ i.groups_are c.in_ok-group.ensures;
      none = none_push _ _ i.none refl;
    })
