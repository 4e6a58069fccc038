use Rattle.std.proofs.Common.{◌∙◌, ◌∷◌, ap}
use Rattle.boc_names.proofs.Words.{empty_says_nothing, says_nothing_at, says_row, says_cown}
use Rattle.boc_names.proofs.entry.said_of.Goals as goal

pub returns-in_default : goal.returns-in_default
returns-in_default c = empty_says_nothing c.args.line.now c.in_default.ensures.cases

pub returns-in-35 : goal.returns-in-35
returns-in-35 c = says_nothing_at c.args.line.now c.in-Some.text.now _ c.in-Some.ensures.cases.0 c.in-35.is

pub returns-in_ok-row-in-61 : goal.returns-in_ok-row-in-61
returns-in_ok-row-in-61 c = says_row c.args.line.now c.in-Some.text.now c.in_ok-row-in-61.row c.in_ok-row-in-61.called
    (c.in-Some.ensures.cases.0 ∙ ap (λ x. x ∷ c.in-Some.text.now) c.in-61.is) c.in_ok-row-in-61.ensures

pub returns-in_ok-cown-in-64 : goal.returns-in_ok-cown-in-64
returns-in_ok-cown-in-64 c = says_cown c.args.line.now c.in-Some.text.now c.in_ok-cown-in-64.cown c.in_ok-cown-in-64.called
    (c.in-Some.ensures.cases.0 ∙ ap (λ x. x ∷ c.in-Some.text.now) c.in-64.is) c.in_ok-cown-in-64.ensures
