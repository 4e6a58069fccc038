use Rattle.boc_remedies.specs.Together.{best_of_size, best_set}
use Rattle.boc_remedies.proofs.Lines.{numbers_step}
use Rattle.boc_remedies.proofs.together.best_sets.Goals as goal

pub loop-more-preserved : goal.loop-more-preserved
loop-more-preserved c = numbers_step (λ size. best_set c.args.looked.now (best_of_size c.args.looked.now size)) c.loop-more.more c.loop-more.sets.items
    c.push_best.new.sets.items c.loop-more.auto.more c.loop-more.invariant c.in_ok-push_best.ensures
