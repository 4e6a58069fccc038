use Rattle.std.proofs.Common.{◌≡◌, ◌-◌}
use Rattle.std.specs.Prelude.{flat_map}
use Rattle.std.specs.List.{range_with_len}
use Rattle.boc_remedies.specs.Together.{best_of_size, best_set}
use Rattle.boc_remedies.proofs.together.best_sets.Given as goal

-- the best sets of the numbers so far
abbrev pub invariant-loop-more : goal.invariant-loop-more
invariant-loop-more l = l.sets.items ≡ flat_map (λ size. best_set l.looked (best_of_size l.looked size)) (range_with_len 2 (l.more - 1))
