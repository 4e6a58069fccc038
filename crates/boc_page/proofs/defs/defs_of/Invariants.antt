use Rattle.std.proofs.Common.{map, take}
use Rattle.boc_names.specs.Names.{text_at, texts_of}
use Rattle.boc_page.specs.Listed.{AreListed, ArePlaces}
use Rattle.boc_page.proofs.defs.defs_of.Given as goal

-- the defs have their places, and so have those of the rows so far
abbrev pub invariant-loop-def : goal.invariant-loop-def
invariant-loop-def l = record {
  listed : AreListed (texts_of l.listed.names.items) l.listed.nameless;
  places : ArePlaces (texts_of l.names.def_names.items) (texts_of l.listed.names.items) l.places.items;
  of_rows : ArePlaces (map (text_at (texts_of l.names.def_names.items)) (take l.def-index l.names.defs.items)) (texts_of l.listed.names.items) l.of_rows.items;
}
