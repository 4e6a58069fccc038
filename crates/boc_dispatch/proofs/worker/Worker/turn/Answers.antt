use Rattle.std.proofs.Common.{◌∙◌, ap}
use Rattle.boc_dispatch.specs.declared.worker.Due.{Due}
use Rattle.boc_dispatch.specs.declared.worker.Hand.TheVariants as hands
use Rattle.boc_dispatch.proofs.worker.Worker.turn.Goals as goal

pub open-requires : goal.open-requires
open-requires g c =
    let at = c.in-Framed in
    (at.field-0, at.field-1, at.is ∙ ap (λ (d : Due). hands.Framed at.field-0 at.field-1 d) c.in-Wishing.is)

pub advance-requires : goal.advance-requires
advance-requires g c =
    let at = c.in-Framed in
    (at.field-0, at.field-1, at.is ∙ ap (λ (d : Due). hands.Framed at.field-0 at.field-1 d) c.in-Enqueuing.is)
