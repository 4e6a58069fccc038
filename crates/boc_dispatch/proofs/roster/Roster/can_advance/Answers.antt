use Rattle.std.proofs.Common.{◌≡◌, ◌∙◌, ap, refl, true, false}
use Rattle.std.specs.Prelude.{not}
use Rattle.boc_runs.specs.declared.stage.Stage.TheVariants.{Asking, Recorded}
use Rattle.boc_dispatch.specs.Inside.{parts_of}
use Rattle.boc_dispatch.proofs.CanSteps.{swap_can, settle_can, recorded_can, request_there, request_stands}
use Rattle.boc_dispatch.proofs.roster.Roster.can_advance.Goals as goal

pub can_settle-requires-clause-there : goal.can_settle-requires-clause-there
can_settle-requires-clause-there g c =
    let d = parts_of g.C.Chains.lists g.C.Chains.place c.args.self.now in
    let at = c.in-Some in
    request_there d c.requires.kept c.args.child.now.number c.args.child.now.row at.field-0 at.ensures c.in-Asking.request
    (c.in-Asking.is ∙ ap (Asking c.in-Asking.request) c.if-not-exchanged.false)

pub can_settle-requires-clause-exchanged : goal.can_settle-requires-clause-exchanged
can_settle-requires-clause-exchanged g c =
    let d = parts_of g.C.Chains.lists g.C.Chains.place c.args.self.now in
    let at = c.in-Some in
    request_stands d c.requires.kept c.args.child.now.number c.args.child.now.row at.field-0 at.ensures c.in-Asking.request
    (c.in-Asking.is ∙ ap (Asking c.in-Asking.request) c.if-not-exchanged.false)

pub returns-then-not-exchanged : goal.returns-then-not-exchanged
returns-then-not-exchanged g c =
    let d = parts_of g.C.Chains.lists g.C.Chains.place c.args.self.now in
    let at = c.in-Some in (
      λ t. swap_can d c.requires.kept c.args.child.now.number c.args.child.now.row at.field-0 at.ensures c.in-Asking.request
          (c.in-Asking.is ∙ ap (Asking c.in-Asking.request) c.if-not-exchanged.true),
      λ can. ap not c.if-not-exchanged.true,
    )

pub returns-else-not-exchanged : goal.returns-else-not-exchanged
returns-else-not-exchanged g c =
    let d = parts_of g.C.Chains.lists g.C.Chains.place c.args.self.now in
    let at = c.in-Some in
    settle_can d c.requires.kept c.args.child.now.number c.args.child.now.row at.field-0 at.ensures c.in-Asking.request
    (c.in-Asking.is ∙ ap (Asking c.in-Asking.request) c.if-not-exchanged.false)
    c.can_settle.result c.can_settle.ensures.blocked

pub returns-in-Recorded : goal.returns-in-Recorded
returns-in-Recorded g c =
    let d = parts_of g.C.Chains.lists g.C.Chains.place c.args.self.now in
    let at = c.in-Some in (
      λ t. recorded_can d c.requires.kept c.args.child.now.number c.args.child.now.row at.field-0 at.ensures c.in-Recorded.row c.in-Recorded.phase
          c.in-Recorded.is,
      λ can. refl,
    )
