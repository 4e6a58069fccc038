use Rattle.std.proofs.Common.{map}
use Rattle.std.proofs.lemmas.Result.{IfOk-weaker}
use Rattle.boc_remedies.specs.Chains.{known}
use Rattle.boc_remedies.proofs.StepByStep.{best_from}
use Rattle.boc_remedies.specs.Questions.{asked}
use Rattle.boc_remedies.proofs.steps.best_step.Goals as goal

pub returns : goal.returns
returns g c = IfOk-weaker c.taken.result _ _ (λ step is.
    best_from (asked c.args.question.now) c.args.steps.now c.in_ok-why.why c.in_ok-greedy.greedy (map known c.in_ok-routes.routes.items) c.in_ok-tried.tried.items
    c.in_ok-left_over.left_over.items c.in_ok-left.left.items c.in_ok-all.all.items c.ends_now.result step c.in_ok-why.ensures.why
    c.in_ok-greedy.ensures.asked c.in_ok-routes.ensures (rw c.deref.ensures.value at c.in_ok-tried.ensures)
    (rw c.deref-2.ensures.value at c.in_ok-left_over.ensures) (rw c.deref-3.ensures.value at c.in_ok-left.ensures)
    (rw (c.deref-4.ensures.value, c.deref-5.ensures.value) at c.in_ok-all.ensures) c.ends_now.ensures (rw c.deref-6.ensures.value at is)) c.taken.ensures
