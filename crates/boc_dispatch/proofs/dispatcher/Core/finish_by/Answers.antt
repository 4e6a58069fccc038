use Rattle.std.proofs.Common.{Bool, subst, sym, ℕ}
use Rattle.std.specs.Prelude.{Option, Result}
use Rattle.boc_dispatch.specs.Underway.{Underway}
use Rattle.boc_dispatch.specs.declared.calls.Leaving.{Leaving}
use Rattle.boc_dispatch.specs.declared.calls.FinishFault.{FinishFault}
use Rattle.boc_dispatch.specs.Calls.{FinishesRow, with_outcome, IsHandedOut}
use Rattle.boc_dispatch.specs.Inside.{parts_of, underway}
use Rattle.boc_dispatch.specs.Moves.{EndsBehaviour}
use Rattle.boc_dispatch.proofs.Answered.{handed_as, ends_leaving, ends_gone}
use Rattle.boc_dispatch.proofs.dispatcher.Core.finish_by.Goals.{then-finish, else-finish}
use Rattle.boc_dispatch.proofs.dispatcher.Core.finish_by.Goals as goal

pub returns : goal.returns
returns g c =
    let d = parts_of g.C.Chains.lists g.C.Chains.place c.self.inside.roster in
    let e = parts_of g.C.Chains.lists g.C.Chains.place c.finish.new.self in
    let o = c.args.outcome.now in
    let row = c.args.row in
    let runs = c.in-Some.ensures in
    let handed : IsHandedOut (underway d) row o.body o.args o.inputs =
    handed_as (underway d) row c.body.result.now o.body c.args-2.result.now o.args c.inputs.result.now o.inputs c.body.ensures.value c.args-2.ensures.value
    c.inputs.ensures.value runs.0 in
    let who : ℕ = runs.1.0.number in
    let ends = c.finish.ensures.ends runs.1.0 runs.1.1 in
    let Answer : Type 0 = Result (Option Leaving) FinishFault in
    subst (λ (u : Underway). FinishesRow u row o (with_outcome o c.if-finish.result) (underway e)) c.self.view_is
    (elim c.if-finish.branch [
      | then-finish w ↦ subst (λ (r : Answer). FinishesRow (underway d) row o (with_outcome o r) (underway e)) (sym w.result-is)
          (ends_leaving d e who row o handed (subst (λ (b : Bool). EndsBehaviour d who row b e) w.if-finish.true ends))
      | else-finish w ↦ subst (λ (r : Answer). FinishesRow (underway d) row o (with_outcome o r) (underway e)) (sym w.result-is)
          (ends_gone d e who row o handed (subst (λ (b : Bool). EndsBehaviour d who row b e) w.if-finish.false ends))
    ])
