use Rattle.std.proofs.Common.{◌≡◌, true, false}
use Rattle.boc_dispatch.specs.Inside.{parts_of}
use Rattle.boc_dispatch.proofs.CanSteps.{leave_there, leave_granted, leave_can, is_leaving}
use Rattle.boc_dispatch.proofs.roster.Roster.can_leave.Goals as goal

pub can_leave-requires-clause-there : goal.can_leave-requires-clause-there
can_leave-requires-clause-there g c =
    let d = parts_of g.C.Chains.lists g.C.Chains.place c.args.self.now in
    leave_there d c.requires.kept c.args.leaving.now.row c.in-Some.slot c.in-Some.request c.in-Some.ensures

pub can_leave-requires-clause-granted : goal.can_leave-requires-clause-granted
can_leave-requires-clause-granted g c =
    let d = parts_of g.C.Chains.lists g.C.Chains.place c.args.self.now in
    leave_granted d c.requires.kept c.args.leaving.now.row c.in-Some.slot c.in-Some.request c.in-Some.ensures

pub returns-in-Some : goal.returns-in-Some
returns-in-Some g c =
    let d = parts_of g.C.Chains.lists g.C.Chains.place c.args.self.now in
    leave_can d c.requires.kept c.args.leaving.now.row c.in-Some.slot c.in-Some.request c.in-Some.ensures c.can_leave.result c.can_leave.ensures.blocked

pub returns-in-None : goal.returns-in-None
returns-in-None g c =
    let d = parts_of g.C.Chains.lists g.C.Chains.place c.args.self.now in (
      λ t. absurd (let f : false ≡ true = t in cc),
      λ can. absurd (c.in-None.ensures (is_leaving d c.requires.kept c.args.leaving.now.row can)),
    )
