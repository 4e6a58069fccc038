use Rattle.std.proofs.Common.{length, map}
use Rattle.boc_reader.specs.Grammar.{name_phrase}
use Rattle.boc_reader.specs.Views.{name_of}
use Rattle.boc_reader.proofs.Lists.{ReadBefore}
use Rattle.boc_reader.proofs.parse.names.Given as goal

abbrev pub invariant-names : goal.invariant-names
invariant-names l = ReadBefore name_phrase l.fn.cursor l.cursor (map name_of l.all.items)

abbrev pub decreases-names : goal.decreases-names
decreases-names l = length l.cursor.tokens
