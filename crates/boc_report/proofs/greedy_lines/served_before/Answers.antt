use Rattle.std.proofs.Common.{◌∷◌, ◌++◌, ◌∙◌, decimal, drop, ap, ℕ}
use Rattle.boc_report.proofs.Lines.{served_formed}
use Rattle.boc_report.proofs.greedy_lines.served_before.Goals as goal

pub returns-clause-written : goal.returns-clause-written
returns-clause-written c =
    let more = drop c.args.place c.args.room.now in
    c.write_before.ensures.written ∙ ap (λ l. decimal c.args.row ++ 32 ∷ l)
    (c.write_before-start_at.ensures.written ∙ ap (λ l. decimal c.args.start ++ 32 ∷ l)
    (c.write_before-end_at.ensures.written ∙ ap (λ l. decimal c.args.end ++ 32 ∷ l)
    (c.write_before-worker_at.ensures.written ∙ ap (λ (n : ℕ). decimal n ++ 10 ∷ more) c.from.ensures)))
    ∙ served_formed c.args.row c.args.start c.args.end c.args.worker more
