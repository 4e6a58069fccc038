use Rattle.std.proofs.Common.{◌≡◌, ◌∙◌, ◌++◌, ◌∷◌, [], ◌≤◌, List, ap, sym, subst}
use Rattle.std.proofs.lemmas.List.{get_or_default}
use Rattle.boc_bars.specs.declared.bar.Bar.{Bar}
use Rattle.boc_bars.specs.Bars.{AreApart}
use Rattle.boc_bars.proofs.Placing.{HaveEnded, Placed, still_apart, still_ended}
use Rattle.boc_bars.proofs.packing.Packing.place.Goals as goal

pub returns : goal.returns
returns c =
    let before = c.args.self.now in
    let now = c.free_lane.new.self.free.items in
    let lane = c.in_ok-lane.lane in
    let tick = c.later_of-free.result in
    let at = c.index.ensures ∙ get_or_default now lane c.index.result.now 0 c.in_ok-lane.ensures.there in
    let placed : Placed before.bars.items before.free.items now c.args.bar lane tick =
    record {
      there = c.in_ok-lane.ensures.there;
      in_time = c.in_ok-lane.ensures.free;
      stay = c.in_ok-lane.ensures.stay;
      ended = c.later_of-free.ensures.first;
      later = subst (λ t. t ≤ tick) at c.later_of-free.ensures.second;
    } in
    let one : List Bar = record c.args.bar { lane = lane } ∷ [] in
    let bars = c.in_ok-push-2.ensures.items ∙ ap (λ v. v.items ++ one) c.in_ok-lane.ensures.bars in
    record {
      lane = lane;
      bars = bars;
      sound = λ s. record {
        apart = subst AreApart (sym bars) (still_apart before.bars.items before.free.items now c.args.bar lane tick placed s.apart s.ended);
        ended = subst (HaveEnded _) (sym bars) (still_ended before.bars.items before.free.items now c.args.bar lane tick placed s.ended);
      };
    }
