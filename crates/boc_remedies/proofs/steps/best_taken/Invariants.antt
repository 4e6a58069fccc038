use Rattle.std.proofs.Common.{◌≡◌, take, None, option_map}
use Rattle.std.specs.List.{fold}
use Rattle.boc_remedies.specs.Steps.{better_step}
use Rattle.boc_remedies.proofs.steps.best_taken.Given as goal

-- the best of the candidates so far
abbrev pub invariant-loop-own : goal.invariant-loop-own
invariant-loop-own l = option_map (λ b. b.now) l.best ≡ fold (better_step l.now l.all) None (take l.own-index l.all)
