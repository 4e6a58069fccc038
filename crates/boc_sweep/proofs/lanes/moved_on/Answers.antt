use Rattle.std.proofs.Common.{◌≡◌, ◌∙◌, ℕ, ◌+◌, arith}
use Rattle.std.specs.Prelude.{slice_index}
use Rattle.std.proofs.lemmas.List.{length-set}
use Rattle.boc_sweep.proofs.Laning.{lane_more}
use Rattle.boc_sweep.proofs.lanes.moved_on.Goals as goal

pub loop-lane-preserved : goal.loop-lane-preserved
loop-lane-preserved c =
    let so_far = c.loop-lane.invariant in
    let tick : ℕ = slice_index c.args.ticks.now c.loop-lane.lane + c.from.result in
    record {
      whole = length-set c.loop-lane.behind c.loop-lane.lane tick ∙ so_far.whole;
      at = lane_more (λ (lane tick : ℕ). tick ≡ slice_index c.args.ticks.now lane + c.args.more) c.loop-lane.behind c.loop-lane.lane tick
          (omega (arith, so_far.whole, c.loop-lane-test.true)) so_far.at (omega (arith, c.from.ensures));
    }
