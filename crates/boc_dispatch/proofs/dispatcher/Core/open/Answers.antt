use Rattle.std.proofs.Common.{subst, refl, sym}
use Rattle.std.specs.Prelude.{Result, Err}
use Rattle.boc_eval.specs.Wishes.{wish_of}
use Rattle.boc_dispatch.specs.Underway.{Underway}
use Rattle.boc_dispatch.specs.Calls.{OpensWish}
use Rattle.boc_dispatch.specs.Inside.{parts_of, underway}
use Rattle.boc_dispatch.specs.Moves.{OpensChild}
use Rattle.boc_dispatch.specs.declared.calls.Child.{Child}
use Rattle.boc_dispatch.specs.declared.calls.OpenFault.{OpenFault}
use Rattle.boc_dispatch.specs.declared.calls.OpenFault.TheVariants as open_faults
use Rattle.std.specs.declared.alloc.AllocError.{AllocError}
use Rattle.boc_dispatch.proofs.Answered.{may_ask, cowns_small, kind_small, full, opens, no_memory, new_is}
use Rattle.boc_dispatch.proofs.dispatcher.Core.open.Goals.{in-Ok-open, in-Err}
use Rattle.boc_dispatch.proofs.dispatcher.Core.open.Goals as goal

pub returns-then-self-ge-MOST_ROWS : goal.returns-then-self-ge-MOST_ROWS
returns-then-self-ge-MOST_ROWS g c =
    let d = parts_of g.C.Chains.lists g.C.Chains.place c.self.inside.roster in
    let f = c.args.frame.now in
    let may = may_ask (underway d) f c.args.row c.body.result.now c.args-2.result.now c.inputs.result.now
    c.body.ensures c.args-2.ensures c.inputs.ensures c.in-Some.ensures.0 c.in-Some-next_wish.ensures.0 in
    let next = wish_of c.in-Some-next_wish.wish.now in
    let last = c.in-Some-next_wish.ensures.2 in
    subst (λ (u : Underway). OpensWish u f c.args.row (Err open_faults.Behaviours) u) c.self.view_is
    (full d c.self.invariant.kept f c.args.row next may last c.if-self-ge-MOST_ROWS.true)

pub wished_behaviour-requires-clause-cowns : goal.wished_behaviour-requires-clause-cowns
wished_behaviour-requires-clause-cowns g c =
    let d = parts_of g.C.Chains.lists g.C.Chains.place c.self.inside.roster in
    let f = c.args.frame.now in
    let may = may_ask (underway d) f c.args.row c.body.result.now c.args-2.result.now c.inputs.result.now
    c.body.ensures c.args-2.ensures c.inputs.ensures c.in-Some.ensures.0 c.in-Some-next_wish.ensures.0 in
    cowns_small (underway d) f c.args.row (wish_of c.in-Some-next_wish.wish.now) c.self.invariant.kept.sound may c.in-Some-next_wish.ensures.2

pub wished_behaviour-requires-clause-kind : goal.wished_behaviour-requires-clause-kind
wished_behaviour-requires-clause-kind g c =
    let d = parts_of g.C.Chains.lists g.C.Chains.place c.self.inside.roster in
    let f = c.args.frame.now in
    let may = may_ask (underway d) f c.args.row c.body.result.now c.args-2.result.now c.inputs.result.now
    c.body.ensures c.args-2.ensures c.inputs.ensures c.in-Some.ensures.0 c.in-Some-next_wish.ensures.0 in
    kind_small (underway d) f c.args.row (wish_of c.in-Some-next_wish.wish.now) c.self.invariant.kept.sound may c.in-Some-next_wish.ensures.2

pub open-requires-clause-new : goal.open-requires-clause-new
open-requires-clause-new g c =
    let d = parts_of g.C.Chains.lists g.C.Chains.place c.self.inside.roster in
    let f = c.args.frame.now in
    let may = may_ask (underway d) f c.args.row c.body.result.now c.args-2.result.now c.inputs.result.now
    c.body.ensures c.args-2.ensures c.inputs.ensures c.in-Some.ensures.0 c.in-Some-next_wish.ensures.0 in
    let made = c.in-Ok.ensures in
    new_is d f c.args.row c.in-Some-next_wish.wish.now c.in-Ok.child may c.in-Some-next_wish.ensures.2
    made.behaviour made.state made.number made.awaited made.fresh

pub returns : goal.returns
returns g c =
    let d = parts_of g.C.Chains.lists g.C.Chains.place c.self.inside.roster in
    let e = parts_of g.C.Chains.lists g.C.Chains.place c.open.new.self in
    let f = c.args.frame.now in
    let may = may_ask (underway d) f c.args.row c.body.result.now c.args-2.result.now c.inputs.result.now
    c.body.ensures c.args-2.ensures c.inputs.ensures c.in-Some.ensures.0 c.in-Some-next_wish.ensures.0 in
    let next = wish_of c.in-Some-next_wish.wish.now in
    let last = c.in-Some-next_wish.ensures.2 in
    let opened = c.open.ensures.opens in
    subst (λ (u : Underway). OpensWish u f c.args.row c.match-open.result (underway e)) c.self.view_is
    (elim c.match-open.branch [
      | in-Ok-open w ↦ subst (λ (r : Result Child OpenFault). OpensWish (underway d) f c.args.row r (underway e)) (sym w.result-is)
          (opens d c.self.invariant.kept e f c.args.row w.in-Ok-open.child may
          (subst (λ (r : Result Child AllocError). OpensChild d c.args.row r e) w.in-Ok-open.is opened))
      | in-Err w ↦ subst (λ (r : Result Child OpenFault). OpensWish (underway d) f c.args.row r (underway e)) (sym w.result-is)
          (no_memory d c.self.invariant.kept e f c.args.row next may last c.if-self-ge-MOST_ROWS.false
          (subst (λ (r : Result Child AllocError). OpensChild d c.args.row r e) w.in-Err.is opened))
    ])

pub returns-in_default-wished_behaviour : goal.returns-in_default-wished_behaviour
returns-in_default-wished_behaviour g c =
    let d = parts_of g.C.Chains.lists g.C.Chains.place c.self.inside.roster in
    let f = c.args.frame.now in
    let may = may_ask (underway d) f c.args.row c.body.result.now c.args-2.result.now c.inputs.result.now
    c.body.ensures c.args-2.ensures c.inputs.ensures c.in-Some.ensures.0 c.in-Some-next_wish.ensures.0 in
    let next = wish_of c.in-Some-next_wish.wish.now in
    let last = c.in-Some-next_wish.ensures.2 in
    let refused : OpensChild d c.args.row (Err c.in_default-wished_behaviour.field-0) d = refl in
    subst (λ (u : Underway). OpensWish u f c.args.row (Err open_faults.Memory) u) c.self.view_is
    (no_memory d c.self.invariant.kept d f c.args.row next may last c.if-self-ge-MOST_ROWS.false refused)
