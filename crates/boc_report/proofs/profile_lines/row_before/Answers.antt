use Rattle.std.proofs.Common.{◌∷◌, ◌++◌, ◌∙◌, decimal, drop, ap}
use Rattle.boc_report.proofs.Lines.{plan_formed}
use Rattle.boc_report.proofs.profile_lines.row_before.Goals as goal

pub returns-clause-written : goal.returns-clause-written
returns-clause-written c =
    c.write_before.ensures.written ∙ ap (λ l. decimal c.args.row ++ 32 ∷ l)
    (c.write_before-start_at.ensures.written ∙ ap (λ l. decimal c.args.start ++ 32 ∷ l) c.write_before-end_at.ensures.written)
    ∙ plan_formed c.args.row c.args.start c.args.end (drop c.args.place c.args.room.now)
