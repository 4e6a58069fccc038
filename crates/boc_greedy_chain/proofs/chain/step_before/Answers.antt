use Rattle.std.proofs.Common.{◌≡◌, ◌≢◌, ◌+◌, ◌<◌, ℕ, length, arith, None}
use Rattle.std.specs.Prelude.{slice_index_or}
use Rattle.std.specs.List.{Contains}
use Rattle.std.proofs.lemmas.List.{get_or_read}
use Rattle.boc_runs.specs.Rows.{parent_of, offset_of}
use Rattle.boc_plans.specs.Plans.{start_of}
use Rattle.boc_order.specs.Waits.{links_of}
use Rattle.boc_order.proofs.Near.{near_ordered}
use Rattle.boc_greedy_chain.specs.GreedyChains.{IsLeastEnding, IsPredecessor}
use Rattle.boc_greedy_chain.proofs.Tying.{tied_by_order, tied_by_worker, some_tie}
use Rattle.boc_greedy_chain.proofs.chain.step_before.Goals as goal
use Rattle.boc_greedy_chain.proofs.chain.step_before.Goals.{After-of, After-lowest_ending}

-- the row has a start
placed : (c : After-of) → c.args.row < length c.args.plan.now.starts.items
placed c = omega (arith, c.requires.there, c.requires.plan.1.greedy.whole)

start_is : (c : After-of) → c.index-start.result.now ≡ start_of c.args.plan.now.starts.items c.args.row
start_is c = get_or_read c.args.plan.now.starts.items c.args.row c.index-start.result.now (placed c) c.index-start.ensures 0

-- a row that waits for it is no later one
waited_for : (c : After-of) (a : ℕ) → Contains (links_of c.args.waits.now c.args.row) a → a < length c.args.rows.now
waited_for c a m =
    omega (arith, (near_ordered _ a c.args.row ((c.requires.waits.at c.args.row c.requires.there).sound a m)).before, c.requires.there)

-- its spawn doesn't hold it back
late : (c : After-of) → start_of c.args.plan.now.starts.items (parent_of c.args.rows.now c.args.row) + offset_of c.args.rows.now c.args.row
    ≢ start_of c.args.plan.now.starts.items c.args.row
late c = λ e. c.if-spawned_at-start.false (omega (arith, rw c.deref.ensures.value at (c.spawned_at.ensures.child c.requires.child), start_is c, e))

found : (c : After-lowest_ending) → c.index-start.result.now ≡ start_of c.args.plan.now.starts.items c.args.row
    → IsLeastEnding (links_of c.args.waits.now c.args.row) c.args.plan.now.ends.items (start_of c.args.plan.now.starts.items c.args.row)
    c.lowest_ending.result
found c start = rw (c.of.ensures, c.deref-2.ensures.value, start) at c.lowest_ending.ensures

had : (c : After-of) → IsPredecessor c.args.plan.now.starts.items c.args.plan.now.workers.items c.args.row (slice_index_or c.args.before.now c.args.row None)
had c = c.requires.before.at c.args.row (placed c)

pub lowest_ending-requires : goal.lowest_ending-requires
lowest_ending-requires c = record {
  there = λ a m. rw c.deref-2.ensures.value
      (omega (arith, waited_for (goal.at.lowest_ending-requires c).After-of a (rw c.of.ensures at m), c.requires.plan.1.ends.whole));
}

pub step_of-requires : goal.step_of-requires
step_of-requires c =
    let at = goal.at.step_of-requires c in
    waited_for at.After-of _ (rw c.in-Some-default.is-0 at (found at.After-lowest_ending (start_is at.After-of))).0

pub unreachable-requires : goal.unreachable-requires
unreachable-requires c =
    let at = goal.at.unreachable-requires c in
    some_tie _ c.requires.shape _ _ _ c.requires.plan.1.greedy c.args.row c.requires.child c.requires.there _ _
    (c.requires.waits.at c.args.row c.requires.there) c.requires.plan.1.ends (late at.After-of)
    (rw c.in-None-None.is-0 at (found at.After-lowest_ending (start_is at.After-of))) (rw c.in-None-None.is-1 at (had at.After-of))

pub returns-in-Some-default : goal.returns-in-Some-default
returns-in-Some-default c =
    let at = goal.at.returns-in-Some-default c in
    tied_by_order _ c.requires.shape _ _ _ c.requires.plan.1.greedy c.args.row c.requires.child c.requires.there _ _
    (c.requires.waits.at c.args.row c.requires.there) c.requires.plan.1.ends (late at.After-of) c.step_of.result c.in-Some-default.ended
    (rw c.in-Some-default.is-0 at (found at.After-lowest_ending (start_is at.After-of))) c.step_of.ensures.row c.step_of.ensures.tie c.step_of.ensures.weight

pub returns-in-None-Some : goal.returns-in-None-Some
returns-in-None-Some c =
    let at = goal.at.returns-in-None-Some c in
    tied_by_worker _ c.requires.shape _ _ _ c.requires.plan.1.greedy c.args.row c.requires.child c.requires.there _ _
    (c.requires.waits.at c.args.row c.requires.there) c.requires.plan.1.ends (late at.After-of) c.step_of-in-None-Some.result c.in-None-Some.ended
    (rw c.in-None-Some.is-0 at (found at.After-lowest_ending (start_is at.After-of))) (rw c.in-None-Some.is-1 at (had at.After-of))
    c.step_of-in-None-Some.ensures.row c.step_of-in-None-Some.ensures.tie c.step_of-in-None-Some.ensures.weight
