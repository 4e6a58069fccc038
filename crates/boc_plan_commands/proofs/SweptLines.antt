-- The lines of a sweep over rows that have names.
use Rattle.std.proofs.Common.{◌≡◌, ◌∙◌, ◌+◌, ◌<◌, ◌++◌, ℕ, suc, Bool, List, [], ◌∷◌, length, take, get_or, sym, ap, subst, refl, arith}
use Rattle.std.proofs.Common.{append_assoc, Option, Some, None, length-take}
use Rattle.std.proofs.lemmas.List.{append-nil, take_more}
use Rattle.boc_runs.specs.declared.rows.Row.{Row}
use Rattle.boc_names.specs.declared.names.Names.{Names}
use Rattle.boc_names.specs.Names.{Text}
use Rattle.boc_plans.specs.Seen.{seen}
use Rattle.boc_plans.specs.declared.sharing.Sharing.{Sharing}
use Rattle.boc_plans.specs.declared.sweep.Sweep.{Sweep}
use Rattle.boc_why.specs.Ranking.{AreRanked}
use Rattle.boc_why.specs.declared.ranking.Placed.{Placed}
use Rattle.boc_words.specs.declared.asked.AskedSweep.{AskedSweep}
use Rattle.boc_run_commands.specs.Answers.{AreSwept, first_of}
use Rattle.boc_plan_commands.specs.BestAnswers.{IsUnswept}
use Rattle.boc_run_commands.specs.NamedRuns.{AreFew}
use Rattle.boc_plan_commands.specs.SweepAnswers.{AreTold, IsAskedSweep, IsSwept, best_text, end_line, gain_line, lines_text}

-- ---- all lines

-- one more line
lines_push : (n : ℕ) (called : Option (List Text)) (ends : List ℕ) (end : ℕ)
    → lines_text n called (ends ++ end ∷ []) ≡ lines_text n called ends ++ end_line called (n + length ends) end
lines_push n called [] end =
    append-nil (end_line called n end) ∙ ap (λ k. end_line called k end) (let e : n ≡ n + 0 = omega arith in e)
lines_push n called (e ∷ ends) end =
    let moved : suc n + length ends ≡ n + suc (length ends) = omega arith in
    ap (λ l. end_line called n e ++ l) (lines_push (suc n) called ends end)
    ∙ sym (append_assoc (end_line called n e) (lines_text (suc n) called ends) (end_line called (suc n + length ends) end))
    ∙ ap (λ k. (end_line called n e ++ lines_text (suc n) called ends) ++ end_line called k end) moved

-- the lines up to one more
pub lines_more : (n number : ℕ) (called : Option (List Text)) (all : List ℕ) (i : ℕ) (d : ℕ) (text after : List ℕ) → i < length all
    → text ≡ lines_text n called (take i all) → number ≡ n → after ≡ text ++ end_line called (number + i) (get_or all i d)
    → after ≡ lines_text n called (take (i + 1) all)
lines_more n number called all i d text after h so_far is put =
    let own : ℕ = get_or all i d in
    let long : length (take i all) ≡ i = length-take i all ∙ omega (arith, h) in
    put ∙ ap (λ l. l ++ end_line called (number + i) own) so_far
    ∙ ap (λ k. lines_text n called (take i all) ++ end_line called (k + i) own) is
    ∙ ap (λ k. lines_text n called (take i all) ++ end_line called (n + k) own) (sym long)
    ∙ sym (lines_push n called (take i all) own) ∙ ap (lines_text n called) (sym (take_more all i d h))

-- ---- the best lines

best_push : (was first : ℕ) (called : Option (List Text)) (placed : List Placed) (p : Placed)
    → best_text was first called (placed ++ p ∷ []) ≡ best_text was first called placed ++ gain_line was called (first + p.place) p.span
best_push was first called [] p = append-nil (gain_line was called (first + p.place) p.span)
best_push was first called (q ∷ placed) p =
    ap (λ l. gain_line was called (first + q.place) q.span ++ l) (best_push was first called placed p)
    ∙ sym (append_assoc (gain_line was called (first + q.place) q.span) (best_text was first called placed) (gain_line was called (first + p.place) p.span))

pub best_more : (was first number : ℕ) (called : Option (List Text)) (all : List Placed) (i : ℕ) (d : Placed) (text after : List ℕ) → i < length all
    → text ≡ best_text was first called (take i all) → number ≡ first
    → after ≡ text ++ gain_line was called (number + (get_or all i d).place) (get_or all i d).span → after ≡ best_text was first called (take (i + 1) all)
best_more was first number called all i d text after h so_far is put =
    let own : Placed = get_or all i d in
    put ∙ ap (λ l. l ++ gain_line was called (number + own.place) own.span) so_far
    ∙ ap (λ n. best_text was first called (take i all) ++ gain_line was called (n + own.place) own.span) is
    ∙ sym (best_push was first called (take i all) own) ∙ ap (best_text was first called) (sym (take_more all i d h))

-- ---- a sweep

-- all lines of a sweep
pub all_told : (rows : List Row) (count : ℕ) (over : Sweep) (best : Option ℕ) (called shown : Option (List Text)) (first : ℕ) (ends read : List ℕ)
    (output : List ℕ) (swept : ℕ) → best ≡ None → swept ≡ count → AreSwept rows swept over ends → read ≡ ends → first ≡ first_of over → shown ≡ called
    → output ≡ lines_text first shown read → AreTold rows count over best called output
all_told rows count over best called shown first ends read output swept none many sweep are from same text =
    subst (λ (b : Option ℕ). AreTold rows count over b called output) (sym none) (record {
      ends = ends;
      sweep = subst (λ (n : ℕ). AreSwept rows n over ends) many sweep;
      text = text ∙ ap (lines_text first shown) are ∙ ap (λ n. lines_text n shown ends) from ∙ ap (λ names. lines_text (first_of over) names ends) same;
    })

-- the best lines of one
pub best_told : (rows : List Row) (count : ℕ) (over : Sweep) (best : Option ℕ) (most : ℕ) (called shown : Option (List Text)) (first was : ℕ)
    (ends read : List ℕ) (all listed : List Placed) (output : List ℕ) (swept : ℕ) → best ≡ Some most → swept ≡ count → AreSwept rows swept over ends → IsUnswept rows over was
    → read ≡ ends → AreRanked read all → listed ≡ all → first ≡ first_of over → shown ≡ called
    → output ≡ best_text was first shown (take most listed) → AreTold rows count over best called output
best_told rows count over best most called shown first was ends read all listed output swept some many sweep unswept are ranked list from same text =
    subst (λ (b : Option ℕ). AreTold rows count over b called output) (sym some) (record {
      ends = ends;
      sweep = subst (λ (n : ℕ). AreSwept rows n over ends) many sweep;
      was = was;
      was_is = unswept;
      best = take most all;
      best_are = record { all = all; ranked = subst (λ (l : List ℕ). AreRanked l all) are ranked; first_are = refl };
      text = text ∙ ap (λ l. best_text was first shown (take most l)) list ∙ ap (λ n. best_text was n shown (take most all)) from
          ∙ ap (λ names. best_text was (first_of over) names (take most all)) same;
    })

-- what is told of the rows of a question is told of the rows that it was made of
pub swept_as : (own rows : List Row) (names : Names) (asked : AskedSweep) (kept : Sharing) (named : Bool) (made output : List ℕ) → rows ≡ own
    → kept ≡ asked.sharing → IsAskedSweep (seen kept rows) names asked named made → output ≡ made → IsSwept own names asked named output
swept_as own rows names asked kept named made output same way told is =
    subst (λ (t : List ℕ). IsSwept own names asked named t) (sym is)
    (subst (λ s. IsAskedSweep (seen s own) names asked named made) way
    (subst (λ (xs : List Row). IsAskedSweep (seen kept xs) names asked named made) same told))

-- the names of the rows that a question was made of are as few
pub few_as : (own rows : List Row) (names : Names) → rows ≡ own → AreFew own names → AreFew rows names
few_as own rows names same few = subst (λ (xs : List Row). AreFew xs names) (sym same) few
