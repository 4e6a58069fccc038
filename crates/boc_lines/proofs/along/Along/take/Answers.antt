use Rattle.boc_eval.specs.Instances.{behaviour_in}
use Rattle.boc_lines.proofs.Alongside.{comes_next, not_next}
use Rattle.boc_lines.proofs.Replaying.{if_ok}
use Rattle.boc_lines.proofs.along.Along.take.Goals as goal

pub returns-in-None-clause-took : goal.returns-in-None-clause-took
returns-in-None-clause-took c = λ s h.
    not_next c.args.program.now s c.args.row.now c.args.values.now c.args.self.now c.deref.result.now c.deref-2.result.now c.deref.ensures.value
    c.deref-2.ensures.value c.in-None.ensures.next h

pub returns-in-Some-clause-took : goal.returns-in-Some-clause-took
returns-in-Some-clause-took c =
    if_ok c.take_as.result _ _
    (λ on f s h. f s h (comes_next s c.args.values.now c.args.self.now c.deref.result.now c.deref-2.result.now c.args.row.now.parent
    (behaviour_in c.in-Some.instance) c.deref.ensures.value c.deref-2.ensures.value c.in-Some.ensures.next h))
    c.take_as.ensures.took
