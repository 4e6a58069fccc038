use Rattle.std.proofs.Common.{◌<◌, ◌≤◌, length, arith, rules}
use Rattle.boc_lines.proofs.Alongside.{found_there, none_there}
use Rattle.boc_lines.proofs.along.next_behaviour.Goals as goal

pub returns-in-Some-clause-next : goal.returns-in-Some-clause-next
returns-in-Some-clause-next c =
    let there : c.place_of-place.result < length c.deref.result.now = search rules in
    found_there c.args.wished.now c.args.taken.now c.args.parent c.place_of-place.result c.index-wished-parent.result c.deref.result.now c.in-Some.instance.now
    c.duplicate.result (omega (arith, c.if-parent-wished.false)) c.index-wished-parent.is c.deref.ensures.value c.place_of-place.ensures there
    c.in-Some.ensures.lookup.1 c.duplicate.ensures

pub returns-in-None-clause-next : goal.returns-in-None-clause-next
returns-in-None-clause-next c =
    let past : length c.deref.result.now ≤ c.place_of-place.result = search rules in
    none_there c.args.wished.now c.args.taken.now c.args.parent c.place_of-place.result c.index-wished-parent.result c.deref.result.now
    (omega (arith, c.if-parent-wished.false)) c.index-wished-parent.is c.deref.ensures.value c.place_of-place.ensures past
