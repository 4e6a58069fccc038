use Rattle.std.proofs.Common.{length, map, ◌+◌, ◌*◌}
use Rattle.boc_reader.specs.Grammar.{stmt_phrase}
use Rattle.boc_reader.specs.Views.{stmt_of}
use Rattle.boc_reader.proofs.Each.{ReadEach}
use Rattle.boc_reader.proofs.parse.+body.Given as goal

abbrev pub decreases-stmt : goal.decreases-stmt
decreases-stmt l = 4 * length l.cursor.now.tokens + 1

abbrev pub decreases-block : goal.decreases-block
decreases-block l = 4 * length l.cursor.now.tokens + 2

abbrev pub decreases-braced : goal.decreases-braced
decreases-braced l = 4 * length l.cursor.now.tokens + 1

abbrev pub decreases-blocks : goal.decreases-blocks
decreases-blocks l = 4 * length l.cursor.now.tokens + 2

abbrev pub decreases-choice : goal.decreases-choice
decreases-choice l = 4 * length l.cursor.now.tokens

abbrev pub decreases-repeated : goal.decreases-repeated
decreases-repeated l = 4 * length l.cursor.now.tokens

abbrev pub invariant-block-stmts : goal.invariant-block-stmts
invariant-block-stmts l = ReadEach stmt_phrase l.fn.cursor l.cursor (map stmt_of l.all.items)

abbrev pub decreases-block-stmts : goal.decreases-block-stmts
decreases-block-stmts l = length l.cursor.tokens
