use Rattle.std.proofs.Common.{refl}
use Rattle.boc_greedy.proofs.WordsAbove.{empty_set, no_bits}
use Rattle.boc_greedy.proofs.row_set.RowSet.new.Goals as goal

pub returns-clause-set : goal.returns-clause-set
returns-clause-set c = empty_set _ (c.in_ok-vec.ensures.items_if_clones_equal (λ y e. e)) refl refl

pub returns-clause-rows : goal.returns-clause-rows
returns-clause-rows c = λ r has. no_bits 1024 r (rw (c.in_ok-vec.ensures.items_if_clones_equal (λ y e. e)) at has)
