use Rattle.std.proofs.Common.{arith, ◌≡◌, ◌<◌, ◌≤◌, length, true≢false, false, sym, refl, take}
use Rattle.std.specs.Prelude.{◌==◌}
use Rattle.std.proofs.lemmas.Bool.Decides.{nat_tests}
use Rattle.boc_plans.specs.Chains.{IsChain, StepHolds, weight_of}
use Rattle.boc_order.proofs.Chaining.{weight_le_end}
use Rattle.boc_order.proofs.Checking.{here_holds, checked_more, chain_made}
use Rattle.std.proofs.lemmas.List.{take_all}
use Rattle.boc_order.proofs.check.check_steps.Goals as goal
use Rattle.boc_order.proofs.check.check_steps.Goals.{Then-not-holds, Else-is_empty}

-- in a step that was refused
refused : (c : Then-not-holds) → StepHolds c.args.rows.now c.args.steps.now c.loop-place.place → ⊥
refused c h = true≢false (sym (c.if-not-holds.ensures.1 (here_holds _ _ _ _ c.loop-place-test.true _ c.step_after-next.ensures h)))

pub returns-then-not-holds-clause-no_chain : goal.returns-then-not-holds-clause-no_chain
returns-then-not-holds-clause-no_chain c = λ h.
    refused c (h.holds c.loop-place.place)

pub returns-then-not-holds-clause-first_false : goal.returns-then-not-holds-clause-first_false
returns-then-not-holds-clause-first_false c =
    record {
      place = λ h. c.loop-place-test.true;
      place_of_none = λ h. absurd (omega (arith, h, c.loop-place-test.true));
      before = c.loop-place.invariant.hold;
      false_there = λ h. refused c;
    }

pub loop-place-preserved : goal.loop-place-preserved
loop-place-preserved c =
    rw c.from-weight.ensures
    (checked_more _ c.requires _ _ _ _ c.loop-place-test.true _ c.step_after-next.ensures
    (c.if-not-holds.ensures.0 refl) c.loop-place.invariant)

-- all steps held, and there is one
accepted : (c : Else-is_empty) → IsChain c.args.rows.now c.args.steps.now
accepted c =
    let e : false ≡ ◌==◌ (length c.args.steps.now) 0 = c.if-is_empty.ensures in
    let some : 0 < length c.args.steps.now = grind (arith, nat_tests) in
    chain_made _ _ _ c.loop-place-test.false some c.loop-place.invariant.hold

pub returns-clause-chain : goal.returns-clause-chain
returns-clause-chain c = accepted c

pub returns-clause-no_sooner : goal.returns-clause-no_sooner
returns-clause-no_sooner c = λ plan last keeps end.
    (let le = weight_le_end _ plan keeps last end _ (accepted c) in
    let whole : weight_of (take c.loop-place.place c.args.steps.now) ≡ weight_of c.args.steps.now =
    (let past : length c.args.steps.now ≤ c.loop-place.place = c.loop-place-test.false in rw take_all refl) in
    omega (arith, c.loop-place.invariant.sum, le))
