use Rattle.std.proofs.Common.{◌-◌, [], ◌∷◌}
use Rattle.boc_remedies.specs.declared.looked_at.TheConstants.{ROUNDS}
use Rattle.boc_remedies.specs.LookedAt.{by_span}
use Rattle.boc_remedies.proofs.Looking.{IsOnTheWay}
use Rattle.boc_remedies.specs.Questions.{asked}
use Rattle.boc_remedies.proofs.looked_at.looked_at.Given as goal

-- the rounds that are left lead to what all lead to
abbrev pub invariant-loop : goal.invariant-loop
invariant-loop g l = IsOnTheWay (by_span (asked l.question)) ROUNDS (record { families = []; span = l.span } ∷ []) (ROUNDS - l.counter) l.from l.looked.items
