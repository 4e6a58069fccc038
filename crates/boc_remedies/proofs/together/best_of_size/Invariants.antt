use Rattle.std.proofs.Common.{◌≡◌, take}
use Rattle.std.specs.Prelude.{option_map}
use Rattle.boc_remedies.specs.Together.{best_of_size}
use Rattle.boc_remedies.proofs.together.best_of_size.Given as goal

-- the best of the sets so far
abbrev pub invariant-loop-own : goal.invariant-loop-own
invariant-loop-own l = option_map (λ b. b.now) l.best ≡ best_of_size (take l.own-index l.looked) l.size
