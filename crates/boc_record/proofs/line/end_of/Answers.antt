use Rattle.boc_record.specs.Versions.{spelling}
use Rattle.boc_record.proofs.Told.{next_field, has_field, end_text}
use Rattle.boc_record.proofs.line.end_of.Goals as goal

pub returns-in_err-ticks : goal.returns-in_err-ticks
returns-in_err-ticks c = rw c.from_residual-in_err-ticks.ensures (λ event t.
    let e = end_text c.args.fields.now (spelling c.args.version) event t in
    has_field _ _ _ c.in_err-ticks.ensures (next_field _ _ _ _ _ c.in_ok-row.ensures e.of).1)

pub returns-in_err-number : goal.returns-in_err-number
returns-in_err-number c = rw c.from_residual-in_err-number.ensures (λ event t.
    let e = end_text c.args.fields.now (spelling c.args.version) event t in
    has_field _ _ _ c.in_err-number.ensures (next_field _ _ _ _ _ c.in_ok-ticks.ensures (next_field _ _ _ _ _ c.in_ok-row.ensures e.of).1).1)

pub returns-in_err-written : goal.returns-in_err-written
returns-in_err-written c = rw c.from_residual-in_err-written.ensures (λ event t.
    let e = end_text c.args.fields.now (spelling c.args.version) event t in
    let left = (next_field _ _ _ _ _ c.in_ok-number.ensures
    (next_field _ _ _ _ _ c.in_ok-ticks.ensures (next_field _ _ _ _ _ c.in_ok-row.ensures e.of).1).1).1 in
    c.in_err-written.ensures e.written e.small e.few left.is)

pub returns-in_err-status : goal.returns-in_err-status
returns-in_err-status c = rw c.from_residual-in_err-status.ensures (λ event t.
    let e = end_text c.args.fields.now (spelling c.args.version) event t in
    let third = next_field _ _ _ _ _ c.in_ok-number.ensures (next_field _ _ _ _ _ c.in_ok-ticks.ensures (next_field _ _ _ _ _ c.in_ok-row.ensures e.of).1).1 in
    c.in_err-status.ensures e.status third.0)
