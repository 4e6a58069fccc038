use Rattle.std.proofs.Common.{◌∙◌, sym}
use Rattle.boc_names.proofs.Words.{base_none, base_some}
use Rattle.boc_names.proofs.entry.base_len.Goals as goal

pub returns-in_err-len : goal.returns-in_err-len
returns-in_err-len c = c.from_residual-in_err-len.ensures
    ∙ base_none c.args.name.now c.in_ok-others.others.now _ c.in_ok-others.ensures.cases.0 (sym c.bracket_of.ensures ∙ c.in_err-len.was)

pub returns : goal.returns
returns c = base_some c.args.name.now c.in_ok-others.others.now _ c.in_ok-len.len c.in_ok-others.ensures.cases.0
    (sym c.ends_with.ensures.value ∙ c.if-not-ends_with.false) (sym c.bracket_of.ensures ∙ c.in_ok-len.was)
