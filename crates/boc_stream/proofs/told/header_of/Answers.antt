use Rattle.std.proofs.Common.{◌≡◌, ap, length, arith}
use Rattle.std.proofs.lemmas.Bool.Decides.{nat_tests}
use Rattle.boc_stream.proofs.ShortFields.{next_field, has_field}
use Rattle.boc_stream.proofs.Telling.{header_text}
use Rattle.boc_stream.proofs.told.header_of.Goals as goal

pub returns-in_err-cowns : goal.returns-in_err-cowns
returns-in_err-cowns c = rw c.from_residual-in_err-cowns.ensures (λ v n small is.
    let h = header_text c.args.line.now c.in_ok-after_mark.field-0.now v n c.in_ok-after_mark.ensures small is in
    has_field _ _ _ _ c.in_err-cowns.ensures (next_field _ _ _ _ _ _ c.in_ok-number.ensures h).1)

pub returns-then-not-is_empty : goal.returns-then-not-is_empty
returns-then-not-is_empty c = λ v n small is.
    let h = header_text c.args.line.now c.in_ok-after_mark.field-0.now v n c.in_ok-after_mark.ensures small is in
    let last = next_field _ _ _ _ _ _ c.in_ok-cowns.ensures (next_field _ _ _ _ _ _ c.in_ok-number.ensures h).1 in
    let none : length c.in_ok-cowns.rest.now ≡ 0 = ap length last.1.is in
    grind (arith, nat_tests, none)

pub returns-in_err-version : goal.returns-in_err-version
returns-in_err-version c = rw c.from_residual-in_err-version.ensures (λ v n small is.
    let h = header_text c.args.line.now c.in_ok-after_mark.field-0.now v n c.in_ok-after_mark.ensures small is in
    c.in_err-version.ensures v (next_field _ _ _ _ _ _ c.in_ok-number.ensures h).0)
