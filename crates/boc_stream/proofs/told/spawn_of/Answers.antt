use Rattle.std.proofs.Common.{refl}
use Rattle.boc_stream.proofs.ShortFields.{next_field, has_field}
use Rattle.boc_stream.proofs.Telling.{spawn_front, three_numbers}
use Rattle.boc_stream.proofs.told.spawn_of.Goals as goal

pub returns-in_err-row : goal.returns-in_err-row
returns-in_err-row c = rw c.from_residual.ensures (λ told rest t. has_field _ _ _ _ c.in_err-row.ensures (spawn_front c.args.fields.now told rest t).of)

pub returns-in_err-parent : goal.returns-in_err-parent
returns-in_err-parent c = rw c.from_residual-in_err-parent.ensures (λ told rest t.
    let s = spawn_front c.args.fields.now told rest t in
    has_field _ _ _ _ c.in_err-parent.ensures (next_field _ _ _ _ _ _ c.in_ok-row.ensures s.of).1)

pub returns-in_err-offset : goal.returns-in_err-offset
returns-in_err-offset c = rw c.from_residual-in_err-offset.ensures (λ told rest t.
    let s = spawn_front c.args.fields.now told rest t in
    has_field _ _ _ _ c.in_err-offset.ensures (next_field _ _ _ _ _ _ c.in_ok-parent.ensures (next_field _ _ _ _ _ _ c.in_ok-row.ensures s.of).1).1)

pub returns : goal.returns
returns c =
    let three = three_numbers _ _ _ _ _ _ _ c.in_ok-row.ensures c.in_ok-parent.ensures c.in_ok-offset.ensures in
    record { sign_is = refl; numbers = three.0; is = three.1; apart = c.in_ok-offset.ensures.apart }
