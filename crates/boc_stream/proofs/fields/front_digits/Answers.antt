use Rattle.std.proofs.Common.{◌≡◌, ◌<◌, ◌^◌, subst, arith}
use Rattle.boc_stream.specs.StreamFields.{IsShortFront}
use Rattle.boc_stream.proofs.ShortFields.{front_so_far, few_worth}
use Rattle.boc_stream.proofs.fields.front_digits.Goals as goal
use Rattle.boc_text.proofs.Numerals.{no_digit}

pub returns-then-not-is_ascii_digit : goal.returns-then-not-is_ascii_digit
returns-then-not-is_ascii_digit c =
    let i = c.loop-i.invariant in
    front_so_far c.args.text.now c.loop-i.i c.loop-i.value (omega (arith, c.min-most.ensures, c.loop-i-test.true))
    (omega (arith, c.min-most.ensures, c.loop-i-test.true)) i.value i.digits
    (λ few within. no_digit _ _ c.is_ascii_digit.ensures.value c.if-not-is_ascii_digit.true)

pub overflow_mul-value : goal.overflow_mul-value
overflow_mul-value c =
    let i = c.loop-i.invariant in
    let few : c.loop-i.value < 10 ^ 17 = few_worth c.args.text.now c.loop-i.i c.loop-i.value (omega (arith, c.min-most.ensures, c.loop-i-test.true))
    (omega (arith, c.min-most.ensures, c.loop-i-test.true)) i.value i.digits in
    omega (arith, few)

pub overflow_add-value : goal.overflow_add-value
overflow_add-value c =
    let i = c.loop-i.invariant in
    let few : c.loop-i.value < 10 ^ 17 = few_worth c.args.text.now c.loop-i.i c.loop-i.value (omega (arith, c.min-most.ensures, c.loop-i-test.true))
    (omega (arith, c.min-most.ensures, c.loop-i-test.true)) i.value i.digits in
    omega (arith, few, c.from.ensures, c.type_inv.text c.loop-i.i)

pub returns : goal.returns
returns c =
    let i = c.loop-i.invariant in
    let same : c.loop-i.i ≡ c.min-most.result = omega (arith, c.loop-i-test.false, c.loop-i.auto.i-end) in
    subst (λ n. IsShortFront c.args.text.now n c.loop-i.value) same
    (front_so_far c.args.text.now c.loop-i.i c.loop-i.value (omega (arith, c.min-most.ensures, same)) (omega (arith, c.min-most.ensures, same)) i.value i.digits
    (λ few within. absurd (omega (arith, few, within, c.min-most.ensures, same))))
