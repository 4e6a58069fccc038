use Rattle.std.proofs.Common.{length, map}
use Rattle.boc_reader.specs.Grammar.{def_phrase}
use Rattle.boc_reader.specs.Listing.{AreLeft}
use Rattle.boc_reader.specs.Views.{def_of}
use Rattle.boc_reader.proofs.Each.{ReadEach}
use Rattle.boc_reader.proofs.parse.defs.Given as goal

abbrev pub invariant-defs : goal.invariant-defs
invariant-defs l = record { read : ReadEach def_phrase l.fn.cursor l.cursor (map def_of l.all.items); left : AreLeft l.all.items l.cursor.tokens }

abbrev pub decreases-defs : goal.decreases-defs
decreases-defs l = length l.cursor.tokens
