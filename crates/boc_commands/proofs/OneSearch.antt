-- Two searches of one text that went through print the same ends.
use Rattle.std.proofs.Common.{◌≡◌, ◌∙◌, ap, ℕ, List, sym, subst, true}
use Rattle.boc_program.specs.declared.program.Program.{Program}
use Rattle.boc_all_ends.specs.Ends.{IsFound}
use Rattle.boc_all_ends_report.specs.EndTexts.{told_ends}
use Rattle.boc_all_ends_report.proofs.OneText.{one_text}
use Rattle.boc_all_ends_commands.specs.AllEndsAnswers.{IsAllEndsAnswer}
use Rattle.boc_reader.proofs.Spellings.{one_program}
use Rattle.boc_run_commands.proofs.OneProgram.{same_program}

pub one_search : (most other : ℕ) (input output another : List ℕ) (a : IsAllEndsAnswer most input output) (b : IsAllEndsAnswer other input another)
    → a.found.whole ≡ true → b.found.whole ≡ true
    → told_ends a.program.cowns a.found.endless a.found.all.items ≡ told_ends b.program.cowns b.found.endless b.found.all.items
one_search most other input output another a b whole too =
    let same : a.program ≡ b.program = same_program a.program b.program (one_program input a.program b.program a.spells b.spells) in
    one_text a.program most other a.program.cowns a.found b.found a.ends (subst (λ (p : Program). IsFound p other b.found) (sym same) b.ends) whole too
    ∙ ap (λ (p : Program). told_ends p.cowns b.found.endless b.found.all.items) same
