use Rattle.std.proofs.Common.{sym, subst, ◌∙◌}
use Rattle.boc_dispatch.specs.declared.calls.Started.TheVariants as started
use Rattle.boc_dispatch.specs.Underway.{Underway}
use Rattle.boc_dispatch.specs.Calls.{Begins}
use Rattle.boc_dispatch.specs.Inside.{parts_of, underway}
use Rattle.boc_dispatch.proofs.Answered.{none_ready}
use Rattle.boc_dispatch.proofs.dispatcher.Core.start.Goals as goal

pub returns-else-is_quiet-clause-begins : goal.returns-else-is_quiet-clause-begins
returns-else-is_quiet-clause-begins g c =
    let d = parts_of g.C.Chains.lists g.C.Chains.place c.self.inside.roster in
    let e = parts_of g.C.Chains.lists g.C.Chains.place c.start.new.self in
    let s = c.in-None.ensures.starts in
    subst (λ (u : Underway). Begins u started.NoneReady (underway e)) c.self.view_is
    (none_ready d e s.0 s.1 (λ quiet. absurd (let yes = sym (c.is_quiet.ensures.1 quiet) ∙ c.if-is_quiet.false in cc)))
