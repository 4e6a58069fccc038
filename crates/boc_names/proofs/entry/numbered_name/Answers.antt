use Rattle.boc_names.proofs.Words.{no_number_first, no_number, no_name}
use Rattle.boc_names.proofs.entry.numbered_name.Goals as goal

pub returns-in_err-digits : goal.returns-in_err-digits
returns-in_err-digits c = rw c.from_residual.ensures (no_number_first c.args.text.now c.in_err-digits.ensures)

pub returns-in_err-number : goal.returns-in_err-number
returns-in_err-number c = rw c.from_residual-in_err-number.ensures
    (no_number c.args.text.now c.in_ok-digits.digits.now c.in_ok-digits.after.now c.in_ok-digits.ensures c.in_err-number.ensures)

pub returns-in_err-name : goal.returns-in_err-name
returns-in_err-name c = rw c.from_residual-in_err-name.ensures
    (no_name c.args.text.now c.in_ok-digits.digits.now c.in_ok-digits.after.now c.in_ok-digits.ensures c.in_err-name.ensures)
