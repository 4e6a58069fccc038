use Rattle.std.proofs.Common.{◌≡◌, ◌++◌, [], ◌∷◌, length, arith}
use Rattle.boc_names.specs.Names.{texts_of}
use Rattle.boc_page.proofs.Listed.{put_empty, texts_count, texts_pushed}
use Rattle.boc_page.proofs.defs.nameless_place.Goals as goal

pub returns-in_ok-push-in-None : goal.returns-in_ok-push-in-None
returns-in_ok-push-in-None c = let names = c.args.listed.now.names.items in
    let is : texts_of c.push.new.self.items ≡ texts_of names ++ [] ∷ [] =
    texts_pushed names c.push.new.self.items c.new.result [] c.in_ok-push-in-None.ensures.items c.new.ensures.items in
    let place_is : c.len-place.result ≡ length (texts_of names) = omega (arith, c.len-place.ensures, texts_count names) in
    let h = put_empty (texts_of names) (texts_of c.push.new.self.items) c.args.listed.now.nameless c.len-place.result is place_is c.in-None.is c.requires in
    record { listed = h.0; stay = h.1; place = h.2 }
