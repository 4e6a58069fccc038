use Rattle.std.proofs.Common.{suc, ◌∷◌, [], ◌++◌, ◌∙◌, ap, arith}
use Rattle.std.specs.Prelude.{None}
use Rattle.boc_chain.proofs.Longer.{one_vacant}
use Rattle.boc_chain.proofs.table.reach.Goals as goal

pub loop-table-preserved : goal.loop-table-preserved
loop-table-preserved g c =
    let old = c.loop-table.invariant.longer in
    record {
      longer = (suc old.0, c.in_ok-push.ensures.items ∙ ap (λ xs. xs ++ None ∷ []) old.1 ∙ one_vacant c.args.table.now.items old.0);
      room = omega (arith, c.loop-table.invariant.room, c.in_ok-push.ensures.capacity);
    }
