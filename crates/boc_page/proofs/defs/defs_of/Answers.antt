use Rattle.std.proofs.Common.{◌≡◌, ◌<◌, ◌≤◌, Some, length, get_or, slice_get}
use Rattle.boc_names.specs.Names.{text_at, texts_of}
use Rattle.boc_page.specs.Columns.{shown_name}
use Rattle.boc_page.specs.Listed.{ArePlaces}
use Rattle.boc_page.proofs.Listed.{are_defs, number_read, places_stay, rows_step}
use Rattle.boc_page.proofs.defs.defs_of.Goals as goal

pub loop-def-preserved : goal.loop-def-preserved
loop-def-preserved c = let texts = texts_of c.args.names.now.def_names.items in let defs = c.args.names.now.defs.items in
    let i = c.loop-def.def-index in let def = get_or defs i 0 in
    let there : i < length defs = rw c.deref-def-items.ensures.value at c.loop-def-test.true in
    let before : ArePlaces texts (texts_of c.loop-def.listed.names.items) c.deref-in-loop-def.result.now =
    rw c.deref-in-loop-def.ensures.value c.loop-def.invariant.places in
    let at : slice_get (texts_of c.place_at.new.listed.names.items) c.in_ok-place_at.field-0 ≡ Some (shown_name (text_at texts def)) =
    rw c.deref-def-items.ensures.value at (c.in_ok-place_at.ensures.place texts before) in
    record {
      listed = c.in_ok-place_at.ensures.listed;
      places = places_stay _ _ _ _ c.loop-def.invariant.places c.in_ok-place_at.ensures.stay;
      of_rows = rows_step texts defs i def (texts_of c.loop-def.listed.names.items) (texts_of c.place_at.new.listed.names.items)
          c.loop-def.of_rows.items c.push.new.self.items c.in_ok-place_at.field-0 there (number_read defs i there) c.loop-def.invariant.of_rows
          c.in_ok-place_at.ensures.stay at c.in_ok-push.ensures.items;
    }

pub returns : goal.returns
returns c = let all : length c.args.names.now.defs.items ≤ c.loop-def.def-index = rw c.deref-def-items.ensures.value at c.loop-def-test.false in
    are_defs c.args.names.now _ c.loop-def.listed.nameless c.loop-def.def-index all c.loop-def.invariant.listed c.loop-def.invariant.of_rows
