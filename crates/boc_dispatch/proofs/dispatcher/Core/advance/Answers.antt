use Rattle.std.proofs.Common.{◌≡◌, ◌∙◌, ap, subst, true, false}
use Rattle.boc_runs.specs.declared.stage.Phase.TheVariants as phases
use Rattle.boc_runs.specs.machine.Stages.{enqueues_at}
use Rattle.boc_runs.specs.declared.stage.Stage.{Stage}
use Rattle.boc_runs.specs.declared.stage.Stage.TheVariants.{Asking, Recorded}
use Rattle.boc_runs.specs.declared.step.Step.TheVariants as steps
use Rattle.boc_dispatch.specs.Underway.{Underway}
use Rattle.boc_dispatch.specs.Calls.{AdvancesChild}
use Rattle.boc_dispatch.specs.Inside.{parts_of, underway}
use Rattle.boc_dispatch.specs.declared.calls.Advanced.TheVariants as advanced
use Rattle.boc_dispatch.proofs.Answered.{found_at, seen_so, step_seen, own_made, settled_or_not, owning}
use Rattle.boc_dispatch.proofs.dispatcher.Core.advance.Goals as goal

pub returns-then-exchanged : goal.returns-then-exchanged
returns-then-exchanged g c =
    let d = parts_of g.C.Chains.lists g.C.Chains.place c.self.inside.roster in
    let child = c.args.child.now in
    let f = c.in-Some.ensures in
    let due = found_at d c.self.invariant.kept child.number child.row _ f (Asking c.in-Asking.request true)
    (c.in-Asking.is ∙ ap (Asking c.in-Asking.request) c.if-exchanged.true) in
    subst (λ (u : Underway). AdvancesChild u child c.settle.result (underway (parts_of g.C.Chains.lists g.C.Chains.place c.settle.new.self))) c.self.view_is
    (settled_or_not d c.self.invariant.kept (parts_of g.C.Chains.lists g.C.Chains.place c.settle.new.self) child _ f c.in-Asking.request c.settle.result
    (c.settle.ensures.settles f.this due))

pub returns-else-exchanged : goal.returns-else-exchanged
returns-else-exchanged g c =
    let d = parts_of g.C.Chains.lists g.C.Chains.place c.self.inside.roster in
    let f = c.in-Some.ensures in
    step_seen d (parts_of g.C.Chains.lists g.C.Chains.place c.swap.new.self) c.self.invariant.kept _ c.args.child.now _ f (steps.Swap c.in-Asking.request)
    c.swap.result (λ own. absurd (let h : steps.Swap c.in-Asking.request ≡ steps.Own = own in cc))
    (c.swap.ensures.swaps f.this (found_at d c.self.invariant.kept c.args.child.now.number c.args.child.now.row _ f (Asking c.in-Asking.request false)
    (c.in-Asking.is ∙ ap (Asking c.in-Asking.request) c.if-exchanged.false)))
    c.self.view_is c.swap.ensures.moved

pub returns-in-Flagging : goal.returns-in-Flagging
returns-in-Flagging g c =
    let d = parts_of g.C.Chains.lists g.C.Chains.place c.self.inside.roster in
    let f = c.in-Some.ensures in
    step_seen d (parts_of g.C.Chains.lists g.C.Chains.place c.flag.new.self) c.self.invariant.kept _ c.args.child.now _ f (steps.Flag c.in-Flagging.request)
    c.flag.result (λ own. absurd (let h : steps.Flag c.in-Flagging.request ≡ steps.Own = own in cc))
    (c.flag.ensures.flags f.this (found_at d c.self.invariant.kept c.args.child.now.number c.args.child.now.row _ f
    (Recorded c.in-Recorded.row (phases.Flagging c.in-Flagging.request))
    (c.in-Recorded.is ∙ ap (Recorded c.in-Recorded.row) c.in-Flagging.is)))
    c.self.view_is c.flag.ensures.moved

pub returns-in_default-phase : goal.returns-in_default-phase
returns-in_default-phase g c =
    let d = parts_of g.C.Chains.lists g.C.Chains.place c.self.inside.roster in
    let e = parts_of g.C.Chains.lists g.C.Chains.place c.own.new.self in
    let f = c.in-Some.ensures in
    let enqueued = subst (λ (s : Stage). enqueues_at s ≡ true) c.in-Recorded.is f.enqueued in
    let owns = owning c.in-Recorded.row c.in-Recorded.phase enqueued c.in_default-phase.not-Flagging in
    let makes = c.own.ensures.owns f.this (found_at d c.self.invariant.kept c.args.child.now.number c.args.child.now.row _ f
    (Recorded c.in-Recorded.row phases.Owning) (c.in-Recorded.is ∙ ap (Recorded c.in-Recorded.row) owns)) in
    seen_so d e _ c.args.child.now c.own.result advanced.Enqueued c.self.view_is c.own.ensures.enqueued
    (own_made d c.self.invariant.kept e c.args.child.now _ f makes.0 makes.1)
