use Rattle.std.proofs.Common.{◌∷◌, ◌++◌, ◌∙◌, decimal, ap, drop, ℕ, []}
use Rattle.boc_report.specs.Texts.{via_word}
use Rattle.boc_report.specs.declared.profile_lines.TheConstants.{MOST_STEP}
use Rattle.boc_report.proofs.Lines.{behind, step_formed}
use Rattle.boc_report.proofs.profile_lines.step_before.Goals as goal

pub returns-clause-written : goal.returns-clause-written
returns-clause-written c =
    c.write_before.ensures.written ∙ ap (λ (n : ℕ). decimal n ++ 32 ∷ drop c.via_before-via_at.result c.via_before-via_at.new.line) c.from-2.ensures
    ∙ ap (λ l. decimal c.args.step.row ++ l)
    (c.via_before-via_at.ensures.written ∙ ap (λ l. via_word c.args.step.via ++ l)
    (c.write_before-weight_at.ensures.written ∙ ap (λ l. decimal c.from.result ++ 10 ∷ l) (behind MOST_STEP c.args.room.now c.requires)
    ∙ ap (λ (n : ℕ). decimal n ++ 10 ∷ []) c.from.ensures))
    ∙ step_formed c.args.step
