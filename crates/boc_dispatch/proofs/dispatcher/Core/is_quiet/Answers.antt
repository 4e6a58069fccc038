use Rattle.std.proofs.Common.{◌↔◌, IsTrue, nat_eq, subst}
use Rattle.std.proofs.lemmas.Bool.Decides.{Decides-eqb}
use Rattle.boc_runs.specs.machine.Steps.{IsQuiet}
use Rattle.boc_dispatch.specs.Underway.{Underway}
use Rattle.boc_dispatch.specs.Inside.{parts_of}
use Rattle.boc_dispatch.proofs.Quiet.{quiet_if_gone, gone_if_quiet}
use Rattle.boc_dispatch.proofs.dispatcher.Core.is_quiet.Goals as goal

pub returns : goal.returns
returns g c =
    let m = c.self.inside.roster in
    let d = parts_of g.C.Chains.lists g.C.Chains.place m in
    let k = c.self.invariant.kept in
    let same = Decides-eqb m.gone m.opened in
    subst (λ (u : Underway). IsTrue (nat_eq m.gone m.opened) ↔ IsQuiet u.state) c.self.view_is
    (λ t. quiet_if_gone d k (same.0 t), λ quiet. same.1 (gone_if_quiet d k quiet))
