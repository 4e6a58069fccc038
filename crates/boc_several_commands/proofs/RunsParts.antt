-- Texts of runs, from their parts.
use Rattle.std.proofs.Common.{◌≡◌, ◌∙◌, ℕ, [], ◌++◌, ap, codes, decimal}
use Rattle.boc_names.specs.Names.{Text}
use Rattle.boc_advice_report.proofs.Regroup.{put_two}
use Rattle.boc_several_commands.specs.RunsTexts.{IsRunsText, head_line, last_line, runs_table, seeds_text}
use Rattle.boc_several_commands.specs.declared.runs_text.RunsCompared.{RunsCompared}

-- for how many seeds the end is less, and for how many it is the same
pub seeds_parts : (less same runs : ℕ) (t one two three four five six seven : Text) → one ≡ t ++ codes "; it is less in " → two ≡ one ++ decimal less
    → three ≡ two ++ codes " and the same in " → four ≡ three ++ decimal same → five ≡ four ++ codes " of " → six ≡ five ++ decimal runs
    → seven ≡ six ++ codes " seeds\n" → seven ≡ t ++ seeds_text less same runs
seeds_parts less same runs t one two three four five six seven a b c d e f g =
    put_two t _ (codes " seeds\n") (put_two t _ (decimal runs) (put_two t _ (codes " of ") (put_two t _ (decimal same) (put_two t _ (codes " and the same in ")
    (put_two t (codes "; it is less in ") (decimal less) a b) c) d) e) f) g

-- all of it
pub runs_parts : (told : RunsCompared) (empty headed listed text : Text) → empty ≡ [] → headed ≡ empty ++ head_line told.asked
    → listed ≡ headed ++ runs_table told → text ≡ listed ++ last_line told → IsRunsText told text
runs_parts told empty headed listed text none head table last = record {
  is = last ∙ ap (λ (own : Text). own ++ last_line told)
      (table ∙ ap (λ (own : Text). own ++ runs_table told) (head ∙ ap (λ (own : Text). own ++ head_line told.asked) none));
}
