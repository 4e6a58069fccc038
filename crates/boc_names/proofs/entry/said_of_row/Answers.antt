use Rattle.std.proofs.lemmas.Result.{err_from_is_err_and}
use Rattle.boc_names.proofs.Words.{no_row, row_cons}
use Rattle.boc_names.proofs.entry.said_of_row.Goals as goal

pub returns-in_default : goal.returns-in_default
returns-in_default c = no_row c.args.text.now c.in_default.ensures

pub returns-in_err-text : goal.returns-in_err-text
returns-in_err-text c =
    let p = err_from_is_err_and c.from_residual.result c.from_residual.ensures.1 in
    rw (p.1, p.2) (row_cons c.args.text.now c.in-Some.row c.in-Some.name.now c.in-Some.args.now _ c.in-Some.ensures c.in_err-text.ensures)
