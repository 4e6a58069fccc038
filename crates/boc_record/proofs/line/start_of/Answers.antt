use Rattle.std.proofs.Common.{◌≡◌, ap, length, arith}
use Rattle.std.proofs.lemmas.Bool.Decides.{nat_tests}
use Rattle.boc_record.proofs.Told.{next_field, start_text}
use Rattle.boc_record.proofs.line.start_of.Goals as goal

pub returns-then-not-is_empty : goal.returns-then-not-is_empty
returns-then-not-is_empty c = λ v event t.
    let s = start_text c.args.fields.now v event t in
    let left = (next_field _ _ _ _ _ c.in_ok-row.ensures s.1).1 in
    let none : length c.in_ok-row.after_row.now ≡ 0 = ap length left.is in
    grind (arith, nat_tests, none)
