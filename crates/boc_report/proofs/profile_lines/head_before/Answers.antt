use Rattle.std.proofs.Common.{◌≡◌, ◌++◌, ◌∙◌, List, ℕ, codes, drop, length, ap, arith}
use Rattle.boc_report.specs.Texts.{number_line}
use Rattle.boc_report.specs.declared.profile_lines.TheConstants.{MOST_HEAD}
use Rattle.boc_report.proofs.Lines.{behind, head_formed}
use Rattle.boc_report.proofs.profile_lines.head_before.Goals as goal

pub returns-clause-written : goal.returns-clause-written
returns-clause-written c =
    let p = c.args.profile.now in
    let count : c.len.result ≡ length p.starts.items = omega (arith, c.len.ensures) in
    let rows : List ℕ = number_line (codes "rows ") (length p.starts.items) in
    let work : List ℕ = number_line (codes "work ") p.work in
    let span : List ℕ = number_line (codes "span ") p.span in
    let chain : drop c.word_before-chain_at.result c.word_before-chain_at.new.line ≡ codes "chain\n" = c.word_before-chain_at.ensures.written
    ∙ ap (λ l. codes "chain\n" ++ l) (behind MOST_HEAD c.args.room.now c.requires) in
    let from_span : drop c.number_before-span_at.result c.number_before-span_at.new.room
    ≡ span ++ codes "chain\n" = c.number_before-span_at.ensures.written ∙ ap (λ l. span ++ l) chain in
    let from_work : drop c.number_before-work_at.result c.number_before-work_at.new.room
    ≡ work ++ (span ++ codes "chain\n") = c.number_before-work_at.ensures.written ∙ ap (λ l. work ++ l) from_span in
    let all : drop c.number_before.result c.number_before.new.room ≡ rows ++ (work ++ (span ++ codes "chain\n")) =
    c.number_before.ensures.written ∙ ap (λ (n : ℕ). number_line
    (codes "rows ") n ++ drop c.number_before-work_at.result c.number_before-work_at.new.room) count ∙ ap (λ l. rows ++ l) from_work in
    all ∙ head_formed (length p.starts.items) p.work p.span
