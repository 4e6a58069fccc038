use Rattle.std.proofs.Common.{subst}
use Rattle.boc_dispatch.specs.Underway.{Underway}
use Rattle.boc_dispatch.specs.Calls.{BeginsFrame}
use Rattle.boc_dispatch.specs.Inside.{parts_of, underway}
use Rattle.boc_dispatch.proofs.Answered.{begins_frame}
use Rattle.boc_dispatch.proofs.dispatcher.Core.start_on.Goals as goal

pub returns : goal.returns
returns g c =
    let d = parts_of g.C.Chains.lists g.C.Chains.place c.self.inside.roster in
    let e = parts_of g.C.Chains.lists g.C.Chains.place c.start_on.new.self in
    record {
      begins = subst (λ (u : Underway). BeginsFrame u c.start_on.result (underway e)) c.self.view_is
          (begins_frame d e c.start_on.result c.start_on.ensures.starts);
    }
