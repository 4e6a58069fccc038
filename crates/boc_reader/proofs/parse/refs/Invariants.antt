use Rattle.std.proofs.Common.{length, map}
use Rattle.boc_reader.specs.Grammar.{ref_phrase}
use Rattle.boc_reader.specs.Views.{named_cown_of}
use Rattle.boc_reader.proofs.Lists.{ReadBefore}
use Rattle.boc_reader.proofs.parse.refs.Given as goal

abbrev pub invariant-refs : goal.invariant-refs
invariant-refs l = ReadBefore ref_phrase l.fn.cursor l.cursor (map named_cown_of l.all.items)

abbrev pub decreases-refs : goal.decreases-refs
decreases-refs l = length l.cursor.tokens
