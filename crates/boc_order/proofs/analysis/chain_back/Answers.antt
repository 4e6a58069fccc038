use Rattle.std.proofs.Common.{arith, ◌≡◌}
use Rattle.boc_order.proofs.Chaining.{reverse_push, waits_below, leads_first, step_back, leads_all}
use Rattle.boc_order.proofs.analysis.chain_back.Goals as goal

pub loop-row-init : goal.loop-row-init
loop-row-init c = record {
  there = c.requires.there;
  leads = leads_first _ _ c.args.last _ _ c.push_reserved.new.self.items c.requires.there c.requires.latest c.ticks.ensures c.in_ok-steps.ensures.items
      c.push_reserved.ensures.items;
  room = omega (arith, c.push_reserved.ensures.len, c.push_reserved.ensures.capacity, c.in_ok-steps.ensures.len, c.in_ok-steps.ensures.capacity);
}

pub step_before-step-requires-clause-among : goal.step_before-step-requires-clause-among
step_before-step-requires-clause-among c = λ a.
    rw c.deref.ensures.value (waits_below _ _ _ _ c.requires.placed c.loop-row.row c.loop-row-test.true c.loop-row.invariant.there a)

pub loop-row-smaller : goal.loop-row-smaller
loop-row-smaller c =
    (step_back _ c.requires.shape _ _ _ c.requires.placed _ c.loop-row.row c.loop-row-test.true c.loop-row.invariant.there
    c.step_before-step.result _ (rw c.deref.ensures.value at c.step_before-step.ensures) c.loop-row.invariant.leads).0

pub loop-row-preserved : goal.loop-row-preserved
loop-row-preserved c =
    let back = step_back _ c.requires.shape _ _ _ c.requires.placed _ c.loop-row.row c.loop-row-test.true c.loop-row.invariant.there
    c.step_before-step.result _ (rw c.deref.ensures.value at c.step_before-step.ensures) c.loop-row.invariant.leads in
    record {
      there = omega (arith, back.0, c.loop-row.invariant.there);
      room = omega (arith, back.0, c.loop-row.invariant.room, c.push_reserved-in-loop-row.ensures.len, c.push_reserved-in-loop-row.ensures.capacity);
      leads = rw (c.push_reserved-in-loop-row.ensures.items, reverse_push) back.1;
    }

pub returns : goal.returns
returns c =
    let z : c.loop-row.row ≡ 0 = omega (arith, c.loop-row-test.false) in
    let all = leads_all _ c.requires.shape _ _ _ c.requires.placed _ _ (rw z at c.loop-row.invariant.leads) in
    rw c.reverse.ensures.items (record { picked = all.0; weight = all.1 })
