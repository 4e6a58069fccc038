use Rattle.std.proofs.Common.{ℕ, List, ◌++◌, ◌∙◌, ap, arith}
use Rattle.std.proofs.lemmas.List.{append-nil, drop_all}
use Rattle.boc_record.specs.RecordTexts.{Second, line, event_line}
use Rattle.boc_record.specs.declared.text.TheConstants.{MOST_BYTES}
use Rattle.boc_record.proofs.text.last_line_before.Goals as goal

pub returns-clause-written : goal.returns-clause-written
returns-clause-written c =
    let own = line (event_line Second c.args.event.now) in
    c.line_before.ensures.written ∙ ap (λ (l : List ℕ). own ++ l) (drop_all MOST_BYTES c.args.room.now (omega (arith, c.requires))) ∙ append-nil own
