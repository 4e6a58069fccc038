use Rattle.std.proofs.Common.{take}
use Rattle.boc_names.specs.Names.{texts_of}
use Rattle.boc_page.specs.Listed.{AreListed, ArePlaces}
use Rattle.boc_page.proofs.defs.places_of.Given as goal

-- the defs so far have their places
abbrev pub invariant-loop-name : goal.invariant-loop-name
invariant-loop-name l = record {
  listed : AreListed (texts_of l.listed.names.items) l.listed.nameless;
  places : ArePlaces (texts_of (take l.name-index l.def_names)) (texts_of l.listed.names.items) l.places.items;
}
