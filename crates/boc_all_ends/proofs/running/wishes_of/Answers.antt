use Rattle.std.proofs.Common.{sym, subst, List}
use Rattle.boc_eval.specs.declared.wish.SpawnWish.{SpawnWish}
use Rattle.boc_all_ends.proofs.Wishing.{Gathered, gathered_more}
use Rattle.boc_all_ends.proofs.running.wishes_of.Goals as goal

pub loop-wish-preserved : goal.loop-wish-preserved
loop-wish-preserved c =
    subst (λ (ws : List SpawnWish). Gathered c.args.frame.now c.run.new.self ws) (sym c.in_ok-push.ensures.items)
    (gathered_more c.args.frame.now c.loop-wish.frame c.run.new.self c.loop-wish.wishes.items c.in-Wants.wish c.loop-wish.invariant c.in-Wants.ensures.stop)
