use Rattle.std.proofs.Common.{◌≡◌, ap, length, arith}
use Rattle.std.proofs.lemmas.Bool.Decides.{nat_tests}
use Rattle.boc_record.proofs.Told.{header_text, next_field, has_field}
use Rattle.boc_record.proofs.line.version_and_cowns.Goals as goal
use Rattle.boc_record.proofs.line.version_and_cowns.Goals.{then-not-is_empty-via-then-not-is_empty}
use Rattle.boc_record.proofs.line.version_and_cowns.Goals.{then-not-is_empty-via-else-not-is_empty+then-cowns-gt-MOST_COWNS}

pub returns-in_err-cowns : goal.returns-in_err-cowns
returns-in_err-cowns c = rw c.from_residual-in_err-cowns.ensures (λ given.
    let h = header_text c.args.line.now c.in_ok-after_mark.field-0.now c.in_ok-after_mark.ensures given in
    has_field _ _ _ c.in_err-cowns.ensures (next_field _ _ _ _ _ c.in_ok-number.ensures h.of).1)

pub returns-then-not-is_empty : goal.returns-then-not-is_empty
returns-then-not-is_empty c = λ given.
    let h = header_text c.args.line.now c.in_ok-after_mark.field-0.now c.in_ok-after_mark.ensures given in
    let last = next_field _ _ _ _ _ c.in_ok-cowns.ensures (next_field _ _ _ _ _ c.in_ok-number.ensures h.of).1 in
    let none : length c.in_ok-cowns.rest.now ≡ 0 = ap length last.1.is in
    elim c.then-not-is_empty.branch [
      | then-not-is_empty-via-then-not-is_empty w ↦ grind (arith, nat_tests, none)
      | then-not-is_empty-via-else-not-is_empty+then-cowns-gt-MOST_COWNS w ↦ omega (arith, w.if-cowns-gt-MOST_COWNS.true, last.0, h.few)
    ]

pub returns-in_err-of_number : goal.returns-in_err-of_number
returns-in_err-of_number c = rw c.from_residual-in_err-of_number.ensures (λ given.
    let h = header_text c.args.line.now c.in_ok-after_mark.field-0.now c.in_ok-after_mark.ensures given in
    let first = next_field _ _ _ _ _ c.in_ok-number.ensures h.of in
    c.in_err-of_number.ensures h.version first.0)
