use Rattle.std.proofs.Common.{refl, ◌∙◌, ap, ◌++◌, ◌∷◌, [], subst}
use Rattle.boc_stream.proofs.ShortFields.{next_field, has_field}
use Rattle.boc_record.specs.RecordTexts.{fields}
use Rattle.boc_stream.specs.StreamFields.{AreShort}
use Rattle.boc_stream.proofs.Telling.{end_front, three_numbers}
use Rattle.boc_stream.proofs.told.end_of.Goals as goal

pub returns-in_err-row : goal.returns-in_err-row
returns-in_err-row c = rw c.from_residual.ensures (λ told rest t. has_field _ _ _ _ c.in_err-row.ensures (end_front c.args.fields.now told rest t).of)

pub returns-in_err-ticks : goal.returns-in_err-ticks
returns-in_err-ticks c = rw c.from_residual-in_err-ticks.ensures (λ told rest t.
    let s = end_front c.args.fields.now told rest t in
    has_field _ _ _ _ c.in_err-ticks.ensures (next_field _ _ _ _ _ _ c.in_ok-row.ensures s.of).1)

pub returns-in_err-number : goal.returns-in_err-number
returns-in_err-number c = rw c.from_residual-in_err-number.ensures (λ told rest t.
    let s = end_front c.args.fields.now told rest t in
    has_field _ _ _ _ c.in_err-number.ensures (next_field _ _ _ _ _ _ c.in_ok-ticks.ensures (next_field _ _ _ _ _ _ c.in_ok-row.ensures s.of).1).1)

pub returns-in_err-status : goal.returns-in_err-status
returns-in_err-status c = rw c.from_residual-in_err-status.ensures (λ told rest t.
    let s = end_front c.args.fields.now told rest t in
    let third = next_field _ _ _ _ _ _ c.in_ok-number.ensures
    (next_field _ _ _ _ _ _ c.in_ok-ticks.ensures (next_field _ _ _ _ _ _ c.in_ok-row.ensures s.of).1).1 in
    c.in_err-status.ensures s.status third.0)

pub returns : goal.returns
returns c =
    let three = three_numbers _ _ _ _ _ _ _ c.in_ok-row.ensures c.in_ok-ticks.ensures c.in_ok-number.ensures in
    let same = c.in_ok-status.ensures in record {
      sign_is = refl;
      numbers = subst (λ n. AreShort (c.in_ok-row.row ∷ c.in_ok-ticks.ticks ∷ n ∷ [])) same three.0;
      is = three.1 ∙ ap (λ n. fields (c.in_ok-row.row ∷ c.in_ok-ticks.ticks ∷ n ∷ []) ++ c.in_ok-number.written.now) same;
      apart = c.in_ok-number.ensures.apart;
    }
