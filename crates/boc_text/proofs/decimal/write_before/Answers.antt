use Rattle.std.proofs.Common.{◌≤◌, ◌<◌, ◌^◌, ◌-◌, decimal, length, arith}
use Rattle.std.proofs.lemmas.Fmt.{length-decimal-le}
use Rattle.std.proofs.lemmas.List.{length-set}
use Rattle.boc_text.proofs.decimal.write_before.Goals as goal

pub write_digits-requires : goal.write_digits-requires
write_digits-requires c =
    let small : c.args.number < 2 ^ 64 = c.ranges.number.fits in
    let few : length (decimal c.args.number) ≤ 20 = length-decimal-le 20 c.args.number (omega arith) (omega (arith, small)) small in
    (omega (arith, few, c.requires.room), omega (arith, c.requires.within, length-set c.args.line.now (c.args.place - 1) c.args.between))

pub returns-clause-near : goal.returns-clause-near
returns-clause-near c =
    let small : c.args.number < 2 ^ 64 = c.ranges.number.fits in
    let few : length (decimal c.args.number) ≤ 20 = length-decimal-le 20 c.args.number (omega arith) (omega (arith, small)) small in
    omega (arith, few, c.write_digits.ensures.start, c.requires.room)
