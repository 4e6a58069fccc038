use Rattle.std.proofs.Common.{arith, rules}
use Rattle.std.proofs.lemmas.Option.{slice_get-get_or}
use Rattle.boc_greedy_chain.proofs.ByStart.{so_far_none, so_far_more, so_far_all, row_there, worker_there}
use Rattle.boc_greedy_chain.proofs.takes.predecessors.Goals as goal
use Rattle.boc_greedy_chain.proofs.takes.predecessors.Goals.{After-loop-turn}

pub loop-turn-init : goal.loop-turn-init
loop-turn-init c = so_far_none _ _ c.args.p _ _ _ (c.in_ok-last.ensures.items_if_clones_equal (λ y e. search rules))
    (c.in_ok-before.ensures.items_if_clones_equal (λ y e. search rules))

pub index-requires : goal.index-requires
index-requires c = omega (
  arith,
  c.loop-turn.last.ok.0,
  worker_there c.args.starts.now c.args.workers.now c.args.p c.as_slice-turn-items.result.now (rw c.as_slice-turn-items.ensures.value c.in_ok-turns.ensures)
      c.requires.below c.requires.whole c.loop-turn.turn-index _ _ c.loop-turn.invariant _
      (slice_get-get_or c.as_slice-turn-items.result.now c.loop-turn.turn-index (record { start = 0; row = 0; worker = 0 }) c.loop-turn-test.true),
)

pub index_mut-requires : goal.index_mut-requires
index_mut-requires c = omega (
  arith,
  c.loop-turn.before.ok.0,
  row_there c.args.starts.now c.args.workers.now c.args.p c.as_slice-turn-items.result.now (rw c.as_slice-turn-items.ensures.value c.in_ok-turns.ensures)
      c.requires.below c.requires.whole c.loop-turn.turn-index _ _ c.loop-turn.invariant _
      (slice_get-get_or c.as_slice-turn-items.result.now c.loop-turn.turn-index (record { start = 0; row = 0; worker = 0 }) c.loop-turn-test.true),
)

pub index_mut-requires-in-loop-turn : goal.index_mut-requires-in-loop-turn
index_mut-requires-in-loop-turn c = omega (
  arith,
  c.loop-turn.last.ok.0,
  worker_there c.args.starts.now c.args.workers.now c.args.p c.as_slice-turn-items.result.now (rw c.as_slice-turn-items.ensures.value c.in_ok-turns.ensures)
      c.requires.below c.requires.whole c.loop-turn.turn-index _ _ c.loop-turn.invariant _
      (slice_get-get_or c.as_slice-turn-items.result.now c.loop-turn.turn-index (record { start = 0; row = 0; worker = 0 }) c.loop-turn-test.true),
)

pub loop-turn-preserved : goal.loop-turn-preserved
loop-turn-preserved c =
    so_far_more c.args.starts.now c.args.workers.now c.args.p c.as_slice-turn-items.result.now (rw c.as_slice-turn-items.ensures.value c.in_ok-turns.ensures)
    c.requires.below c.requires.whole c.loop-turn.turn-index _ _ c.loop-turn.invariant _
    (slice_get-get_or c.as_slice-turn-items.result.now c.loop-turn.turn-index (record { start = 0; row = 0; worker = 0 }) c.loop-turn-test.true)
    c.requires.apart c.index.result.now c.index.ensures

pub returns : goal.returns
returns c = so_far_all _ _ c.args.p c.as_slice-turn-items.result.now (rw c.as_slice-turn-items.ensures.value c.in_ok-turns.ensures) c.loop-turn.turn-index _ _
    c.loop-turn-test.false c.loop-turn.invariant
