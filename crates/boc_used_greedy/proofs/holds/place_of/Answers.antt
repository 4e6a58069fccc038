use Rattle.std.proofs.Common.{◌∙◌, arith}
use Rattle.std.proofs.lemmas.List.{get_or_default}
use Rattle.boc_used_greedy.proofs.holds.place_of.Goals as goal

pub returns : goal.returns
returns c =
    let (k, h, e) = c.requires in
    absurd (c.loop-place.invariant k (omega (arith, h, c.loop-place-test.false)) (get_or_default c.args.cowns.now k 0 c.args.cown h ∙ e))
