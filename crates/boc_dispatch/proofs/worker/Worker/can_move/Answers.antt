use Rattle.std.proofs.Common.{◌≡◌, ◌∙◌, ◌↔◌, IsTrue, ap, refl, subst, sym}
use Rattle.boc_dispatch.specs.declared.worker.Due.{Due}
use Rattle.boc_dispatch.specs.declared.worker.Due.TheVariants as dues
use Rattle.boc_dispatch.specs.declared.worker.Hand.{Hand}
use Rattle.boc_dispatch.specs.declared.worker.Hand.TheVariants as hands
use Rattle.boc_dispatch.specs.Driving.{HandFits}
use Rattle.boc_dispatch.specs.Stepping.{CanTurn}
use Rattle.boc_dispatch.specs.Working.{row_in}
use Rattle.boc_dispatch.proofs.CanTurns.{free_moves, enqueue_moves, leaving_moves, framed_moves, other_moves}
use Rattle.boc_dispatch.proofs.worker.Worker.can_move.Goals as goal

pub returns-in-Nothing : goal.returns-in-Nothing
returns-in-Nothing g c =
    subst (λ (h : Hand). IsTrue c.has_ready.result ↔ CanTurn c.args.core.now (row_in h)) (sym c.in-Nothing.is)
    (free_moves c.args.core.now c.requires.sound c.has_ready.result c.has_ready.ensures)

pub returns-in-Enqueuing : goal.returns-in-Enqueuing
returns-in-Enqueuing g c =
    let child = c.in-Enqueuing.child in
    let is : c.args.self.now.hand ≡ hands.Framed c.in-Framed.field-0 c.in-Framed.field-1 (dues.Enqueuing child) =
    c.in-Framed.is ∙ ap (λ (d : Due). hands.Framed c.in-Framed.field-0 c.in-Framed.field-1 d) c.in-Enqueuing.is in
    let fits : HandFits c.args.core.now (hands.Framed c.in-Framed.field-0 c.in-Framed.field-1 (dues.Enqueuing child)) =
    subst (HandFits c.args.core.now) is c.requires.fits in
    subst (λ (h : Hand). IsTrue c.can_advance.result ↔ CanTurn c.args.core.now (row_in h)) (sym is)
    (enqueue_moves c.args.core.now c.requires.sound child.number child.row fits.enqueue c.can_advance.result c.can_advance.ensures)

pub returns-in_default-due : goal.returns-in_default-due
returns-in_default-due g c = (
  λ t. framed_moves c.args.core.now c.requires.sound c.args.self.now.hand c.in-Framed.field-0 c.in-Framed.field-1 c.in-Framed.due c.in-Framed.is
      c.requires.fits c.in_default-due.not-Enqueuing,
  λ can. refl,
)

pub returns-in-Leaving : goal.returns-in-Leaving
returns-in-Leaving g c =
    let fits : HandFits c.args.core.now (hands.Leaving c.in-Leaving.leaving) = subst (HandFits c.args.core.now) c.in-Leaving.is c.requires.fits in
    subst (λ (h : Hand). IsTrue c.can_leave.result ↔ CanTurn c.args.core.now (row_in h)) (sym c.in-Leaving.is)
    (leaving_moves c.args.core.now c.requires.sound c.in-Leaving.leaving.row fits c.can_leave.result c.can_leave.ensures)

pub returns-in_default : goal.returns-in_default
returns-in_default g c = (
  λ t. other_moves c.args.core.now c.requires.sound c.args.self.now.hand c.requires.fits c.in_default.not-Nothing c.in_default.not-Framed
      c.in_default.not-Leaving,
  λ can. refl,
)
