use Rattle.std.proofs.Common.{length, ◌+◌, ◌*◌}
use Rattle.boc_reader.proofs.parse.+expr.Given as goal

abbrev pub decreases-more_factors : goal.decreases-more_factors
decreases-more_factors l = 6 * length l.cursor.now.tokens

abbrev pub decreases-more_terms : goal.decreases-more_terms
decreases-more_terms l = 6 * length l.cursor.now.tokens

abbrev pub decreases-compared : goal.decreases-compared
decreases-compared l = 6 * length l.cursor.now.tokens

abbrev pub decreases-atom : goal.decreases-atom
decreases-atom l = 6 * length l.cursor.now.tokens

abbrev pub decreases-unary : goal.decreases-unary
decreases-unary l = 6 * length l.cursor.now.tokens + 1

abbrev pub decreases-term : goal.decreases-term
decreases-term l = 6 * length l.cursor.now.tokens + 2

abbrev pub decreases-sum : goal.decreases-sum
decreases-sum l = 6 * length l.cursor.now.tokens + 3

abbrev pub decreases-expr : goal.decreases-expr
decreases-expr l = 6 * length l.cursor.now.tokens + 4

abbrev pub decreases-closed : goal.decreases-closed
decreases-closed l = 6 * length l.cursor.now.tokens + 5
