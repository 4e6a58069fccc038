-- Of several cowns at once one table is reported.
use Rattle.std.proofs.Common.{◌≡◌, ◌∙◌, ℕ, List, [], ◌∷◌, ◌++◌, map, ap, refl, subst, sym}
use Rattle.std.specs.List.{fold}
use Rattle.boc_remedies.specs.declared.looked_at.LookedAt.{LookedAt}
use Rattle.boc_remedies.specs.Questions.{Asked}
use Rattle.boc_remedies.specs.declared.remedy.Remedy.TheVariants.{NoOrder}
use Rattle.boc_remedies.specs.declared.together.Together.{Together}
use Rattle.boc_remedies.specs.Families.{joined}
use Rattle.boc_remedies.specs.Together.{AreCownsTogether, AreCownsTogetherOf, AreTogether, best_sets, lines_of}
use Rattle.boc_remedies.specs.Tried.{added_set, of_several}
use Rattle.boc_remedies.proofs.OneEnds.{one_list_of_ends}
use Rattle.boc_remedies.proofs.OneLookedAt.{one_list_of_sets, one_looked_at}

-- of the same sets there is one list of lines
pub one_list_of_lines : (question : Asked) (sets : List (List ℕ)) (lines others : List Together) → AreTogether question sets lines
    → AreTogether question sets others → lines ≡ others
one_list_of_lines question sets lines others a b =
    a.are ∙ ap (lines_of sets) (one_list_of_ends question (map NoOrder (sets ++ joined [] question.families ∷ [])) a.left b.left a.left_are b.left_are)
    ∙ sym b.are

one_table_of : (question : Asked) (span : ℕ) (of_chain : List (List ℕ)) (lines others : List Together) → AreCownsTogetherOf question span of_chain lines
    → AreCownsTogetherOf question span of_chain others → lines ≡ others
one_table_of question span of_chain lines others a b =
    let same : a.looked ≡ b.looked = one_looked_at question span a.looked b.looked a.looked_are b.looked_are in
    one_list_of_lines question (fold added_set (of_several of_chain) (best_sets b.looked)) lines others
    (subst (λ (looked : List LookedAt). AreTogether question (fold added_set (of_several of_chain) (best_sets looked)) lines) same a.are) b.are

-- none, or all of them, where the chain hands something on
by_chain : (question : Asked) (span : ℕ) (of_chain : List (List ℕ)) (lines others : List Together) → (of_chain ≡ [] → lines ≡ [])
    → (of_chain ≡ [] → others ≡ []) → ((of_chain ≡ [] → ⊥) → AreCownsTogetherOf question span of_chain lines)
    → ((of_chain ≡ [] → ⊥) → AreCownsTogetherOf question span of_chain others) → lines ≡ others
by_chain question span [] lines others none no_other are others_are = none refl ∙ sym (no_other refl)
by_chain question span (set ∷ sets) lines others none no_other are others_are =
    one_table_of question span (set ∷ sets) lines others (are (λ e. absurd cc)) (others_are (λ e. absurd cc))

pub one_table : (question : Asked) (span : ℕ) (lines others : List Together) → AreCownsTogether question span lines
    → AreCownsTogether question span others → lines ≡ others
one_table question span lines others a b =
    let same : a.of_chain ≡ b.of_chain = one_list_of_sets question question.rows a.of_chain b.of_chain a.of_chain_are b.of_chain_are in
    by_chain question span b.of_chain lines others (λ e. a.nothing (same ∙ e)) b.nothing
    (λ some. subst (λ (sets : List (List ℕ)). AreCownsTogetherOf question span sets lines) same (a.lines_are (λ e. some (sym same ∙ e)))) b.lines_are
