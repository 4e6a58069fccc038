use Rattle.std.proofs.Common.{◌≡◌, ◌++◌, [], ◌∷◌, Some, length, sym, ap, ◌∙◌, arith}
use Rattle.boc_names.specs.Names.{Text, texts_of}
use Rattle.boc_page.proofs.Listed.{is_some, put_name, shown, texts_count, texts_pushed}
use Rattle.boc_page.proofs.defs.place_of.Goals as goal

pub returns : goal.returns
returns c = let names = c.args.listed.now.names.items in let name = c.args.name.now in
    let is : texts_of c.push.new.self.items ≡ texts_of names ++ name ∷ [] =
    texts_pushed names c.push.new.self.items c.in_ok-from_slice.field-0 name c.in_ok-push.ensures.items c.in_ok-from_slice.ensures.items in
    let place_is : c.len-place.result ≡ length (texts_of names) = omega (arith, c.len-place.ensures, texts_count names) in
    let h = put_name (texts_of names) (texts_of c.push.new.self.items) c.args.listed.now.nameless name c.len-place.result is place_is
    (is_some name (sym c.is_empty.ensures ∙ c.if-is_empty.false)) c.requires in
    record {
      listed = h.0;
      stay = h.1;
      place = h.2 ∙ ap (λ (t : Text). Some t) (sym (shown name (sym c.has_blank.ensures ∙ c.if-has_blank.false)));
    }
