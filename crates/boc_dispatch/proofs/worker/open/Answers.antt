use Rattle.boc_dispatch.proofs.InPlace.{works_from, fits_from}
use Rattle.boc_dispatch.proofs.OwnTurns.{opens_fits}
use Rattle.boc_dispatch.proofs.Worked.{opens}
use Rattle.std.proofs.Common.{◌≡◌, ◌∙◌, ap, subst, sym}
use Rattle.boc_runs.specs.declared.step.Step.TheVariants.{Open}
use Rattle.boc_dispatch.specs.declared.worker.Due.{Due}
use Rattle.boc_dispatch.specs.declared.worker.Due.TheVariants as dues
use Rattle.boc_dispatch.specs.declared.worker.Hand.{Hand}
use Rattle.boc_dispatch.specs.declared.worker.Hand.TheVariants as hands
use Rattle.boc_dispatch.specs.declared.worker.Turn.TheVariants as turns
use Rattle.boc_dispatch.specs.Driving.{KeepsFitting}
use Rattle.boc_dispatch.specs.Working.{Works}
use Rattle.boc_eval.specs.Frames.{UnderWay as Framed}
use Rattle.std.specs.Prelude.{ℕ}
use Rattle.boc_dispatch.proofs.worker.open.Goals as goal

-- what is due of a frame that is in hand in two ways is the same
is_wishing : (h : Hand) (row own : ℕ) (f g : Framed) (due : Due) → h ≡ hands.Framed row f due → h ≡ hands.Framed own g dues.Wishing
    → h ≡ hands.Framed row f dues.Wishing
is_wishing h row own f g due is wishes =
    let both : hands.Framed row f due ≡ hands.Framed own g dues.Wishing = sym is ∙ wishes in
    let same : due ≡ dues.Wishing = cc in
    is ∙ ap (λ (d : Due). hands.Framed row f d) same

pub returns-in-Ok-clause-works : goal.returns-in-Ok-clause-works
returns-in-Ok-clause-works g c =
    let at = c.in-Framed in
    let before = is_wishing c.args.hand.now at.row c.requires.0 at.frame c.requires.1 at.field-2 at.is c.requires.2 in
    let after = c.set_due.ensures at.row at.frame at.field-2 at.is in
    subst (λ (k : Hand). Works c.args.core.now c.args.hand.now (turns.Moved Open) c.open-opened.new.self k) (sym after)
    (works_from c.args.core.now c.open-opened.new.self (turns.Moved Open) c.args.hand.now (hands.Framed at.row at.frame dues.Wishing)
    (hands.Framed at.row at.frame (dues.Enqueuing c.in-Ok.child)) before
    (opens c.args.core.now c.open-opened.new.self at.row at.frame c.in-Ok.child c.in-Ok.ensures))

pub returns-in-Ok-clause-fits : goal.returns-in-Ok-clause-fits
returns-in-Ok-clause-fits g c =
    let at = c.in-Framed in
    let before = is_wishing c.args.hand.now at.row c.requires.0 at.frame c.requires.1 at.field-2 at.is c.requires.2 in
    let after = c.set_due.ensures at.row at.frame at.field-2 at.is in
    subst (λ (k : Hand). KeepsFitting c.args.core.now c.args.hand.now c.open-opened.new.self k) (sym after)
    (fits_from c.args.core.now c.open-opened.new.self c.args.hand.now (hands.Framed at.row at.frame dues.Wishing)
    (hands.Framed at.row at.frame (dues.Enqueuing c.in-Ok.child)) before
    (λ sound fits. opens_fits c.args.core.now c.open-opened.new.self at.row at.frame c.in-Ok.child fits c.in-Ok.ensures))
