use Rattle.std.proofs.Common.{◌∷◌, ◌∙◌, ap, arith}
use Rattle.std.proofs.lemmas.List.{drop_all}
use Rattle.boc_record.specs.declared.text.TheConstants.{MOST_BYTES}
use Rattle.boc_record.proofs.text.end_line.Goals as goal

pub returns-clause-feed : goal.returns-clause-feed
returns-clause-feed c = c.mark_before.ensures.written ∙ ap (λ l. 10 ∷ l) (drop_all MOST_BYTES c.args.room.now (omega (arith, c.requires)))
