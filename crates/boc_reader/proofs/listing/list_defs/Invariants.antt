use Rattle.std.proofs.Common.{◌≡◌, map, take}
use Rattle.boc_reader.specs.Listing.{AreLines, signature_of}
use Rattle.boc_reader.specs.Listed.{listed}
use Rattle.boc_reader.specs.Views.{block_of, def_of}
use Rattle.boc_reader.proofs.listing.list_defs.Given as goal

abbrev pub invariant-loop-def : goal.invariant-loop-def
invariant-loop-def l = record {
  all : map listed l.all.items ≡ map signature_of (map def_of (take l.def-index l.tree.defs.items));
  lines : AreLines l.text (map def_of l.tree.defs.items) (block_of l.tree.main.items) (map (λ d. d.line) l.all.items);
}
