use Rattle.std.proofs.Common.{length, sym, ap, ◌∙◌}
use Rattle.boc_runs.specs.declared.rows.Row.{Row}
use Rattle.boc_remedies.specs.Families.{members_of}
use Rattle.boc_remedies.proofs.Looking.{length-without_all}
use Rattle.boc_remedies.specs.Questions.{asked}
use Rattle.boc_remedies.proofs.looked_at.sets_left.Goals as goal

pub sets_of_chain-requires-clause-defs : goal.sets_of_chain-requires-clause-defs
sets_of_chain-requires-clause-defs c =
    let question = (asked c.args.question.now) in
    c.requires.defs ∙ sym (length-without_all (members_of c.in_ok-copy.field-0 question.families) question.rows)
    ∙ ap (length {A = Row}) (sym c.in_ok-rows.ensures)
