use Rattle.std.proofs.Common.{◌≡◌, length, map, rules}
use Rattle.boc_eval.specs.Instances.{behaviour_in}
use Rattle.boc_lines.specs.Replays.{AreRowTicks}
use Rattle.boc_lines.proofs.Found.{by_line}
use Rattle.boc_lines.proofs.by_line.ticks_of_behaviours.Goals as goal

pub returns-in_ok-merged-in-Some : goal.returns-in_ok-merged-in-Some
returns-in_ok-merged-in-Some c = λ rows chain h goes is.
    let p = c.args.program.now in
    let bs = map behaviour_in c.args.behaviours.now in
    let found = c.in-Some.found in
    let own : AreRowTicks p bs c.args.through.now found.ticks.items found.chain.items = search rules in
    let many : length c.deref.result.now ≡ length found.ticks.items = search rules in
    by_line p rows chain bs c.args.through.now c.deref.result.now found.ticks.items found.chain.items c.in_ok-merged-in-Some.field-0.items h goes is own many
    c.in_ok-merged-in-Some.ensures.lines c.in_ok-merged-in-Some.ensures.sums
