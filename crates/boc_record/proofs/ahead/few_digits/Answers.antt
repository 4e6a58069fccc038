use Rattle.std.proofs.Common.{◌<◌, ◌^◌, arith}
use Rattle.boc_record.proofs.Runs.{front_so_far, worth_below}
use Rattle.boc_record.proofs.ahead.few_digits.Goals as goal
use Rattle.boc_text.proofs.Numerals.{no_digit}

pub returns-then-not-is_ascii_digit-clause-front : goal.returns-then-not-is_ascii_digit-clause-front
returns-then-not-is_ascii_digit-clause-front c =
    let i = c.loop-i.invariant in
    front_so_far c.args.text.now c.loop-i.i c.loop-i.value (omega (arith, c.requires, c.loop-i-test.true)) (omega (arith, c.loop-i-test.true)) i.value i.digits
    (λ few within. no_digit _ _ c.is_ascii_digit.ensures.value c.if-not-is_ascii_digit.true)

pub overflow_mul-value : goal.overflow_mul-value
overflow_mul-value c =
    let i = c.loop-i.invariant in
    let few : c.loop-i.value < 10 ^ 7 = worth_below 7 c.args.text.now c.loop-i.i c.loop-i.value (omega (arith, c.requires, c.loop-i-test.true))
    (omega (arith, c.loop-i-test.true)) i.value i.digits in
    omega (arith, few)

pub overflow_add-value : goal.overflow_add-value
overflow_add-value c =
    let i = c.loop-i.invariant in
    let few : c.loop-i.value < 10 ^ 7 = worth_below 7 c.args.text.now c.loop-i.i c.loop-i.value (omega (arith, c.requires, c.loop-i-test.true))
    (omega (arith, c.loop-i-test.true)) i.value i.digits in
    omega (arith, few, c.from.ensures, c.type_inv.text c.loop-i.i)
