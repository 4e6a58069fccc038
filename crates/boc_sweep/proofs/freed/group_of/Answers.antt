use Rattle.std.proofs.Common.{◌≡◌, ◌∙◌, ℕ, ◌*◌, ◌-◌, ◌<◌, length, List, take, drop, length-drop, arith, ap, refl}
use Rattle.std.specs.Prelude.{slice_index}
use Rattle.std.proofs.lemmas.List.{length-set, get_or-drop, take_all}
use Rattle.boc_sweep.specs.declared.lanes.TheConstants.{LANES}
use Rattle.boc_sweep.proofs.Laning.{lane_more}
use Rattle.boc_sweep.proofs.freed.group_of.Goals.{then-lane-own, else-lane-own}
use Rattle.boc_sweep.proofs.freed.group_of.Goals as goal

-- the cowns from the group's first one on
from_first : (cowns : List ℕ) (first : ℕ) → take (length cowns - first) (drop first cowns) ≡ drop first cowns
from_first cowns first = take_all (length cowns - first) (drop first cowns) (omega (arith, length-drop first cowns))

pub loop-lane-preserved : goal.loop-lane-preserved
loop-lane-preserved c =
    let so_far = c.loop-lane.invariant in
    let i : ℕ = c.loop-lane.lane in
    let first : ℕ = c.args.group * LANES in
    let own : List ℕ = take (length c.args.cowns.now - first) (drop first c.args.cowns.now) in
    elim c.if-lane-own.branch [
      | then-lane-own w ↦ rw w.lanes-is (record {
        whole = length-set c.loop-lane.lanes i (slice_index own i) ∙ so_far.whole;
        at = lane_more (λ (lane cown : ℕ). lane < length own → cown ≡ slice_index own lane) c.loop-lane.lanes i (slice_index own i)
            (omega (arith, so_far.whole, c.loop-lane-test.true)) so_far.at (λ h. refl);
      })
      | else-lane-own w ↦ rw w.lanes-is (record {
        whole = so_far.whole;
        at = λ lane h there. so_far.at lane (omega (arith, h, there, w.if-lane-own.false)) there;
      })
    ]

pub returns : goal.returns
returns c = λ lane low there.
    let cowns : List ℕ = c.args.cowns.now in
    let first : ℕ = c.args.group * LANES in
    let mine = c.loop-lane.invariant.at lane (omega (arith, c.loop-lane-test.false, low))
    (rw (from_first cowns first) (omega (arith, length-drop first cowns, there))) in
    mine ∙ ap (λ (own : List ℕ). slice_index own lane) (from_first cowns first) ∙ get_or-drop first cowns lane 0
