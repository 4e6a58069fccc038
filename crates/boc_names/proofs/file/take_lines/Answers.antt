use Rattle.std.proofs.Common.{◌≡◌, ◌+◌, length, arith}
use Rattle.std.proofs.lemmas.Bool.Decides.{nat_tests}
use Rattle.boc_names.proofs.Reading.{taken_none, taken_more, taken_all, taken_wrong, none_left}
use Rattle.boc_names.proofs.file.take_lines.Goals as goal

pub loop-taken-init : goal.loop-taken-init
loop-taken-init c = taken_none c.args.text.now c.args.things.now

pub returns-in-Err : goal.returns-in-Err
returns-in-Err c = taken_wrong c.args.text.now c.args.things.now c.loop-taken.things c.loop-taken.rest.now (c.loop-taken.taken + 1) c.in-Err.kind
    c.requires c.loop-taken.invariant c.in-Err.ensures

pub returns-then-is_empty : goal.returns-then-is_empty
returns-then-is_empty c =
    let none : length c.loop-taken.rest.now ≡ 0 = grind (arith, nat_tests) in
    taken_all c.args.text.now c.args.things.now c.loop-taken.things c.loop-taken.rest.now (c.loop-taken.taken + 1) c.loop-taken.invariant none

pub loop-taken-preserved : goal.loop-taken-preserved
loop-taken-preserved c = taken_more c.args.text.now c.args.things.now c.loop-taken.things c.take_line.new.things c.loop-taken.rest.now c.in-Ok.after.now
    (c.loop-taken.taken + 1) c.requires c.loop-taken.invariant c.in-Ok.ensures (omega arith)

pub returns : goal.returns
returns c =
    let none = none_left c.args.text.now c.args.things.now c.loop-taken.things c.loop-taken.rest.now (c.loop-taken.taken + 1) c.loop-taken.invariant
    (omega arith) in
    taken_all c.args.text.now c.args.things.now c.loop-taken.things c.loop-taken.rest.now (c.loop-taken.taken + 1) c.loop-taken.invariant none
