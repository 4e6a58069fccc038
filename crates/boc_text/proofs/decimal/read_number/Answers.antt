use Rattle.std.proofs.Common.{◌≡◌, ◌<◌, length, get_or, arith, inl, inr}
use Rattle.std.proofs.lemmas.Bool.Decides.{nat_tests}
use Rattle.boc_text.proofs.Numerals.{leads, number_read}
use Rattle.boc_text.proofs.decimal.read_number.Goals as goal

pub returns-then-is_empty : goal.returns-then-is_empty
returns-then-is_empty c = λ n h e. let some = (leads n c.args.bytes.now h e).0 in grind (arith, nat_tests, some, c.is_empty.ensures, c.if-is_empty.true)

pub returns-then-bytes-gt1 : goal.returns-then-bytes-gt1
returns-then-bytes-gt1 c = λ n h e. omega (arith, (leads n c.args.bytes.now h e).1 c.if-bytes-eq48.true, c.if-bytes-gt1.true)

pub returns : goal.returns
returns c =
    let some : 0 < length c.args.bytes.now = grind (arith, nat_tests, c.is_empty.ensures, c.if-is_empty.false) in
    let lead : get_or c.args.bytes.now 0 0 ≡ 48 → length c.args.bytes.now ≡ 1 =
    λ zero. elim c.else-bytes-eq48.either [ inl w ↦ omega (arith, w.1, some) | inr w ↦ absurd (w zero) ] in
    number_read c.args.bytes.now c.value_of.result some lead c.value_of.ensures
