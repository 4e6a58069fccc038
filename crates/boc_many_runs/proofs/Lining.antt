-- The lines that are told, one more at a time.
use Rattle.std.proofs.Common.{◌≡◌, ◌∙◌, ℕ, List, [], ◌∷◌, ◌++◌, arith, refl, ap, sym, subst, ℤ, Some, None}
use Rattle.std.specs.List.{fold}
use Rattle.std.proofs.lemmas.List.{length-append}
use Rattle.std.proofs.lemmas.List.Sums.{fold-append}
use Rattle.boc_remedies.specs.declared.remedy.Remedy.{Remedy}
use Rattle.boc_many_runs.specs.declared.lines.Line.{Line}
use Rattle.boc_many_runs.specs.Lines.{AreLines, AreLinesAt, IsLineOf, ranked_line, told_places}
use Rattle.boc_many_runs.proofs.Rounds.{zip_more}

-- the lines of the remedies at these places, in their order
pub record AreLinesFrom (remedies : List Remedy) (columns : List (List ℤ)) (runs : ℕ) (places : List ℕ) (lines : List Line) : Type 0 where
  pub all : List Line
  pub all_are : AreLinesAt remedies columns runs places all
  pub are : lines ≡ fold ranked_line [] all

module _ (remedies : List Remedy) (columns : List (List ℤ)) (runs : ℕ) where
  pub lines_none : (lines : List Line) → lines ≡ [] → AreLinesFrom remedies columns runs [] lines
  lines_none lines none = record {
    all = [];
    all_are = record { long = refl; at = λ k place line ip il. absurd (let g : None ≡ Some place = ip in cc) };
    are = none;
  }

  pub lines_more : (places : List ℕ) (place : ℕ) (lines after : List Line) (line : Line) → AreLinesFrom remedies columns runs places lines
      → IsLineOf remedies columns runs place line → after ≡ ranked_line lines line → AreLinesFrom remedies columns runs (places ++ place ∷ []) after
  lines_more places place lines after line so own step = record {
    all = so.all ++ line ∷ [];
    all_are = record {
      long = omega (arith, length-append so.all (line ∷ []), length-append places (place ∷ []), so.all_are.long);
      at = zip_more (λ (n : ℕ) (l : Line). IsLineOf remedies columns runs n l) places so.all place line so.all_are.long so.all_are.at own;
    };
    are = step ∙ ap (λ ls. ranked_line ls line) so.are ∙ sym (fold-append ranked_line [] so.all (line ∷ []));
  }

  pub lines_all : (places : List ℕ) (lines : List Line) → places ≡ told_places remedies columns runs → AreLinesFrom remedies columns runs places lines
      → AreLines remedies columns runs lines
  lines_all places lines same so = record { all = so.all; all_are = subst (λ (ps : List ℕ). AreLinesAt remedies columns runs ps so.all) same so.all_are; are = so.are }
