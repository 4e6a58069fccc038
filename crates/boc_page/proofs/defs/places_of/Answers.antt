use Rattle.std.proofs.Common.{◌≡◌, Some, slice_get}
use Rattle.boc_names.specs.Names.{texts_of}
use Rattle.boc_page.specs.Columns.{shown_name}
use Rattle.boc_page.proofs.Listed.{places_step}
use Rattle.boc_page.proofs.defs.places_of.Goals as goal

pub loop-name-preserved : goal.loop-name-preserved
loop-name-preserved c = let item = c.name-item.result in
    let at : slice_get (texts_of c.place_of.new.listed.names.items) c.in_ok-place_of.field-0 ≡ Some (shown_name item.items) =
    rw c.deref.ensures.value at c.in_ok-place_of.ensures.place in
    record {
      listed = c.in_ok-place_of.ensures.listed;
      places = places_step c.args.def_names.now c.loop-name.name-index item (texts_of c.loop-name.listed.names.items)
          (texts_of c.place_of.new.listed.names.items) c.loop-name.places.items c.push.new.self.items c.in_ok-place_of.field-0 c.loop-name-test.true
          c.name-item.is c.loop-name.invariant.places c.in_ok-place_of.ensures.stay at c.in_ok-push.ensures.items;
    }
