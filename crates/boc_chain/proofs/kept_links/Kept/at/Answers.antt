use Rattle.std.proofs.Common.{◌≡◌, ◌∙◌, ◌-◌, ◌<◌, ◌++◌, length, length-append, refl, ap, sym, arith}
use Rattle.std.specs.Prelude.{slice_get, Some}
use Rattle.std.proofs.lemmas.Option.{slice_get_read}
use Rattle.boc_chain.specs.KeptLinks.{head_of, places_of, room_of}
use Rattle.boc_chain.proofs.Keeping.{rest_at}
use Rattle.boc_chain.proofs.kept_links.Kept.at.Goals as goal

pub returns-else-place-lt-FEW : goal.returns-else-place-lt-FEW
returns-else-place-lt-FEW c =
    let first : length c.in-More.head.first ≡ 2 = sym (ap (λ k. length (head_of k).first) c.in-More.is) ∙ c.requires.places.first in
    let room : room_of c.args.self.now ≡ 8 = ap room_of c.in-More.is in
    let whole : length (c.in-More.head.first ++ c.in-More.rest.value) ≡ 8 =
    sym (ap (λ k. length (places_of k)) c.in-More.is) ∙ c.requires.places.whole ∙ room in
    let found = c.index-deref-place.result in
    let rest = c.deref.result.now in
    let long : c.args.place - 2 < length rest = omega (
      arith,
      first,
      room,
      whole,
      length-append c.in-More.head.first c.in-More.rest.value,
      ap length
          c.deref.ensures,
      c.requires.there,
      c.if-place-lt-FEW.false,
    ) in
    ap (λ k. slice_get (places_of k) c.args.place) c.in-More.is
    ∙ rest_at c.in-More.head.first c.in-More.rest.value c.args.place (omega (arith, first, c.if-place-lt-FEW.false))
    ∙ ap (λ n. slice_get c.in-More.rest.value (c.args.place - n)) first
    ∙ ap (λ xs. slice_get xs (c.args.place - 2)) (sym c.deref.ensures)
    ∙ slice_get_read rest (length rest) (c.args.place - 2) found refl long c.index-deref-place.is
    ∙ ap Some (c.index-deref-place.is ∙ sym c.link-else-place-lt-FEW.ensures)
