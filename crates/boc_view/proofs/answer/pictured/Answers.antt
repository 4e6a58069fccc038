use Rattle.boc_view.proofs.Refused.{refused_picture}
use Rattle.boc_view.proofs.answer.pictured.Goals as goal

pub returns-in_err-material-clause-refused : goal.returns-in_err-material-clause-refused
returns-in_err-material-clause-refused g c =
    refused_picture (Unit {0}) c.args.wanted.now c.args.beside.items _ c.in_err-material.field-0.0 c.in_ok-text.text.items _ _
    c.from_residual-in_err-material.ensures.1 c.in_ok-text.ensures.text c.in_err-material.ensures
