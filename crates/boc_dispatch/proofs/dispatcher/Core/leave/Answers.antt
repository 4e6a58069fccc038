use Rattle.std.proofs.Common.{subst}
use Rattle.boc_dispatch.specs.Underway.{Underway}
use Rattle.boc_dispatch.specs.Calls.{LeavesCown}
use Rattle.boc_dispatch.specs.Inside.{parts_of, underway}
use Rattle.boc_dispatch.proofs.Answered.{leaves}
use Rattle.boc_dispatch.proofs.dispatcher.Core.leave.Goals as goal

pub returns-in-Some : goal.returns-in-Some
returns-in-Some g c =
    let d = parts_of g.C.Chains.lists g.C.Chains.place c.self.inside.roster in
    let e = parts_of g.C.Chains.lists g.C.Chains.place c.leave.new.self in
    let found = c.in-Some.ensures in
    subst (λ (u : Underway). LeavesCown u c.args.leaving.now c.leave.result (underway e)) c.self.view_is
    (leaves d e c.args.leaving.now found.0.number c.leave.result (c.leave.ensures.releases found.0 found.1))
