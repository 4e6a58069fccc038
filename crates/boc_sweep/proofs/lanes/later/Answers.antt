use Rattle.std.proofs.Common.{◌≡◌, ◌∙◌, ℕ, max, arith}
use Rattle.std.specs.Prelude.{slice_index}
use Rattle.std.proofs.lemmas.List.{length-set}
use Rattle.boc_sweep.proofs.Laning.{lane_more}
use Rattle.boc_sweep.proofs.lanes.later.Goals as goal

pub loop-lane-preserved : goal.loop-lane-preserved
loop-lane-preserved c =
    let so_far = c.loop-lane.invariant in
    record {
      whole = length-set c.loop-lane.latest c.loop-lane.lane c.max.result ∙ so_far.whole;
      at = lane_more (λ (lane tick : ℕ). tick ≡ max (slice_index c.args.ticks.now lane) (slice_index c.args.others.now lane)) c.loop-lane.latest
          c.loop-lane.lane c.max.result (omega (arith, so_far.whole, c.loop-lane-test.true)) so_far.at c.max.ensures;
    }
