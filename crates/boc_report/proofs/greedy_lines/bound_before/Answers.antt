use Rattle.std.proofs.Common.{◌∷◌, ◌++◌, ◌∙◌, codes, decimal, ap}
use Rattle.boc_report.specs.declared.greedy_lines.TheConstants.{MOST_FRAME}
use Rattle.boc_report.proofs.Lines.{behind, bound_formed}
use Rattle.boc_report.proofs.greedy_lines.bound_before.Goals as goal

pub returns-clause-written : goal.returns-clause-written
returns-clause-written c =
    c.word_before.ensures.written ∙ ap (λ l. codes "end " ++ l)
    (c.write_before-end_at.ensures.written ∙ ap (λ l. decimal c.args.end ++ 32 ∷ l)
    (c.word_before-word_at.ensures.written ∙ ap (λ l. codes "bound " ++ l)
    (c.write_before-bound_at.ensures.written ∙ ap (λ l. decimal c.args.bound ++ 10 ∷ l) (behind MOST_FRAME c.args.room.now c.requires))))
    ∙ bound_formed c.args.end c.args.bound
