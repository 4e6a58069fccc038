use Rattle.std.proofs.Common.{◌≡◌, List, length, map, take}
use Rattle.boc_runs.specs.Run.{Member}
use Rattle.boc_eval.specs.Instances.{AreTrueOf, behaviour_in}
use Rattle.boc_dispatch.proofs.told.rows_in_order.Given as goal

abbrev pub invariant-loop-row : goal.invariant-loop-row
invariant-loop-row l =
    (run : List Member) → AreTrueOf run l.told → length run ≡ l.count → map behaviour_in l.rows.items ≡ map (λ m. m.behaviour) (take l.row run)
