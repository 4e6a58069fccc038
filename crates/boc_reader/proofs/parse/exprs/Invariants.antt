use Rattle.std.proofs.Common.{length, map}
use Rattle.boc_reader.specs.Grammar.{expr_phrase}
use Rattle.boc_reader.specs.Views.{expr_of}
use Rattle.boc_reader.proofs.Lists.{ReadBefore}
use Rattle.boc_reader.proofs.parse.exprs.Given as goal

abbrev pub invariant-exprs : goal.invariant-exprs
invariant-exprs l = ReadBefore expr_phrase l.fn.cursor l.cursor (map expr_of l.all.items)

abbrev pub decreases-exprs : goal.decreases-exprs
decreases-exprs l = length l.cursor.tokens
