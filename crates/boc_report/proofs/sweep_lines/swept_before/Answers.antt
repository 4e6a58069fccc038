use Rattle.std.proofs.Common.{◌∷◌, ◌++◌, ◌∙◌, decimal, drop, ap}
use Rattle.boc_report.proofs.Lines.{sweep_formed}
use Rattle.boc_report.proofs.sweep_lines.swept_before.Goals as goal

pub returns-clause-written : goal.returns-clause-written
returns-clause-written c =
    c.write_before.ensures.written ∙ ap (λ l. decimal c.args.number ++ 32 ∷ l) c.write_before-span_at.ensures.written
    ∙ sweep_formed c.args.number c.args.span (drop c.args.place c.args.room.now)
