use Rattle.std.proofs.Common.{length, map}
use Rattle.boc_reader.specs.Grammar.{cown_phrase}
use Rattle.boc_reader.specs.Views.{cown_of}
use Rattle.boc_reader.proofs.Each.{ReadEach}
use Rattle.boc_reader.proofs.parse.cowns.Given as goal

abbrev pub invariant-cowns : goal.invariant-cowns
invariant-cowns l = ReadEach cown_phrase l.fn.cursor l.cursor (map cown_of l.all.items)

abbrev pub decreases-cowns : goal.decreases-cowns
decreases-cowns l = length l.cursor.tokens
