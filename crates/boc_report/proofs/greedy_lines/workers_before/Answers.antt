use Rattle.std.proofs.Common.{ℕ, ◌++◌, ◌∙◌, ap}
use Rattle.std.proofs.lemmas.List.{append-nil}
use Rattle.boc_report.specs.Texts.{number_line}
use Rattle.boc_report.specs.declared.greedy_lines.TheConstants.{MOST_FRAME}
use Rattle.boc_report.proofs.Lines.{behind}
use Rattle.boc_report.proofs.greedy_lines.workers_before.Goals as goal

pub returns-clause-written : goal.returns-clause-written
returns-clause-written c =
    c.number_before.ensures.written ∙ ap (λ l. number_line c.args.word.now c.from.result ++ l) (behind MOST_FRAME c.args.room.now c.requires.room)
    ∙ append-nil (number_line c.args.word.now c.from.result) ∙ ap (λ (n : ℕ). number_line c.args.word.now n) c.from.ensures
