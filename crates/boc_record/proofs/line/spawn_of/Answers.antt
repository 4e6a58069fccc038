use Rattle.boc_record.proofs.Told.{next_field, has_field, spawn_text}
use Rattle.boc_record.proofs.line.spawn_of.Goals as goal

pub returns-in_err-parent : goal.returns-in_err-parent
returns-in_err-parent c = rw c.from_residual-in_err-parent.ensures (λ v event t.
    let s = spawn_text c.args.fields.now v event t in
    has_field _ _ _ c.in_err-parent.ensures (next_field _ _ _ _ _ c.in_ok-row.ensures s.of).1)

pub returns-in_err-offset : goal.returns-in_err-offset
returns-in_err-offset c = rw c.from_residual-in_err-offset.ensures (λ v event t.
    let s = spawn_text c.args.fields.now v event t in
    has_field _ _ _ c.in_err-offset.ensures (next_field _ _ _ _ _ c.in_ok-parent.ensures (next_field _ _ _ _ _ c.in_ok-row.ensures s.of).1).1)

pub returns-in_err-cowns : goal.returns-in_err-cowns
returns-in_err-cowns c = rw c.from_residual-in_err-cowns.ensures (λ v event t.
    let s = spawn_text c.args.fields.now v event t in
    let left = (next_field _ _ _ _ _ c.in_ok-offset.ensures
    (next_field _ _ _ _ _ c.in_ok-parent.ensures (next_field _ _ _ _ _ c.in_ok-row.ensures s.of).1).1).1 in
    c.in_err-cowns.ensures s.cowns left.small s.few left.is)
