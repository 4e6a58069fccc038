use Rattle.std.proofs.Common.{refl}
use Rattle.boc_stream.proofs.ShortFields.{has_field}
use Rattle.boc_stream.proofs.Telling.{start_front, one_number}
use Rattle.boc_stream.proofs.told.start_of.Goals as goal

pub returns-in_err-row : goal.returns-in_err-row
returns-in_err-row c = rw c.from_residual.ensures (λ told rest t. has_field _ _ _ _ c.in_err-row.ensures (start_front c.args.fields.now told rest t).1)

pub returns : goal.returns
returns c =
    let one = one_number _ _ _ c.in_ok-row.ensures in
    record { sign_is = refl; numbers = one.0; is = one.1; apart = c.in_ok-row.ensures.apart }
