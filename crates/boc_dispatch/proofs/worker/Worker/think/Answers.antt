use Rattle.std.proofs.Common.{◌∙◌, ap}
use Rattle.boc_dispatch.specs.declared.worker.Due.{Due}
use Rattle.boc_dispatch.specs.declared.worker.Hand.TheVariants as hands
use Rattle.boc_dispatch.proofs.worker.Worker.think.Goals as goal

pub run_on-requires : goal.run_on-requires
run_on-requires c =
    let at = c.in-Framed in
    (at.field-0, at.field-1, at.is ∙ ap (λ (d : Due). hands.Framed at.field-0 at.field-1 d) c.in-Going.is)
