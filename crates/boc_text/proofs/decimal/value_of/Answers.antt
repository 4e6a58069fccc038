use Rattle.std.proofs.Common.{arith}
use Rattle.boc_text.proofs.Numerals.{none_with, none_above, no_digit, all_read}
use Rattle.boc_text.proofs.decimal.value_of.Goals as goal

pub returns-then-not-is_ascii_digit : goal.returns-then-not-is_ascii_digit
returns-then-not-is_ascii_digit c =
    none_with c.args.digits.now c.loop-byte.byte-index c.loop-byte-test.true (no_digit _ _ c.is_ascii_digit.ensures.value c.if-not-is_ascii_digit.true)

pub returns-in_err-checked_mul : goal.returns-in_err-checked_mul
returns-in_err-checked_mul c =
    rw c.from_residual.ensures (none_above c.args.digits.now c.loop-byte.byte-index c.loop-byte-test.true
    (omega (arith, c.in_err-checked_mul.ensures, c.loop-byte.invariant.value)))

pub returns-in_err-number : goal.returns-in_err-number
returns-in_err-number c =
    rw c.from_residual-in_err-number.ensures (none_above c.args.digits.now c.loop-byte.byte-index c.loop-byte-test.true
    (omega (arith, c.in_err-number.ensures, c.in_ok-checked_mul.ensures, c.from.ensures, c.loop-byte.invariant.value)))

pub returns : goal.returns
returns c =
    all_read c.args.digits.now c.loop-byte.byte-index c.loop-byte.number c.loop-byte.invariant.small c.loop-byte-test.false c.loop-byte.invariant.digits
    c.loop-byte.invariant.value c.loop-byte.auto.byte-index-end
