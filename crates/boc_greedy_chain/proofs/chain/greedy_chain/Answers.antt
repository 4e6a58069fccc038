use Rattle.std.proofs.Common.{◌≡◌, arith}
use Rattle.boc_greedy_chain.proofs.Freeing.{start_apart}
use Rattle.boc_greedy_chain.proofs.Chaining.{lead_first, lead_more, lead_all, reverse_push, tied_sooner, weight_is_end}
use Rattle.boc_greedy_chain.specs.GreedyChains.{IsGreedyChain}
use Rattle.boc_greedy_chain.proofs.chain.greedy_chain.Goals as goal
use Rattle.boc_greedy_chain.proofs.chain.greedy_chain.Goals.{After-reverse}

pub predecessors-requires-clause-apart : goal.predecessors-requires-clause-apart
predecessors-requires-clause-apart c =
    rw (c.deref.ensures.value, c.deref-2.ensures.value) (start_apart _ c.requires.shape _ _ _ c.requires.plan.1.greedy)

pub loop-row-init : goal.loop-row-init
loop-row-init c =
    let first = lead_first c.args.rows.now c.args.plan.now.starts.items c.args.plan.now.workers.items c.args.plan.now.ends.items c.args.plan.now.ends_at
    c.first_ending-row.result c.requires.plan.1.ends c.requires.plan.1.ends_at (rw c.deref-3.ensures.value at c.first_ending-row.ensures)
    c.step_of.result c.new-steps.result.items c.push.new.self.items c.step_of.ensures.row c.step_of.ensures.tie c.step_of.ensures.weight
    c.new-steps.ensures.items c.in_ok-push.ensures.items in
    record { there = first.0; leads = first.1 }

pub loop-row-smaller : goal.loop-row-smaller
loop-row-smaller c =
    (tied_sooner _ _ _ c.requires.shape c.step_before-step.result c.loop-row.row c.loop-row.invariant.there c.step_before-step.ensures).1

pub loop-row-preserved : goal.loop-row-preserved
loop-row-preserved c =
    let sooner = tied_sooner _ _ _ c.requires.shape c.step_before-step.result c.loop-row.row c.loop-row.invariant.there c.step_before-step.ensures in
    record {
      there = sooner.0;
      leads = rw (c.in_ok-push-2.ensures.items, reverse_push)
          (lead_more _ _ _ c.step_before-step.result c.loop-row.row _ sooner.0 c.step_before-step.ensures c.loop-row.invariant.leads);
    }

chain_is : (c : After-reverse) → IsGreedyChain c.args.rows.now c.args.plan.now.starts.items c.args.plan.now.workers.items c.reverse.new.self.items
chain_is c =
    let main : c.loop-row.row ≡ 0 = omega (arith, c.loop-row-test.false) in
    rw c.reverse.ensures.items (lead_all _ _ _ _ (rw main at c.loop-row.invariant.leads))

pub returns-clause-chain : goal.returns-clause-chain
returns-clause-chain c = chain_is (goal.at.returns-clause-chain c).After-reverse

pub returns-clause-adds_up : goal.returns-clause-adds_up
returns-clause-adds_up c =
    weight_is_end _ _ _ c.requires.shape _ _ _ c.requires.plan.1.greedy c.requires.plan.1.ends_at (chain_is (goal.at.returns-clause-adds_up c).After-reverse)
