-- The best ends of a sweep.
use Rattle.std.proofs.Common.{◌≡◌, ◌∙◌, ◌+◌, ◌<◌, ◌≤◌, ◌^◌, ◌++◌, ℕ, List, [], ◌∷◌, All, length, take, get_or, sym, ap, subst, refl, append_assoc, arith}
use Rattle.boc_program.specs.declared.limits.TheConstants.{MOST_ROWS}
use Rattle.std.proofs.lemmas.List.{append-nil, take_more}
use Rattle.boc_runs.specs.declared.rows.Row.{Row}
use Rattle.boc_runs.specs.Records.{Recorded}
use Rattle.boc_plans.specs.Seen.{seen}
use Rattle.boc_plans.specs.declared.sharing.Sharing.{Sharing}
use Rattle.boc_plans.specs.declared.sweep.Sweep.{Sweep}
use Rattle.boc_record.specs.RecordTexts.{IsTextOf}
use Rattle.boc_why.specs.Ranking.{AreRanked}
use Rattle.boc_why.specs.declared.ranking.Placed.{Placed}
use Rattle.boc_run_commands.specs.Answers.{AreSwept, first_of}
use Rattle.boc_plan_commands.specs.BestAnswers.{IsBestAnswer, IsUnswept, best_line, best_lines}

-- one more line
best_push : (was first : ℕ) (placed : List Placed) (p : Placed)
    → best_lines was first (placed ++ p ∷ []) ≡ best_lines was first placed ++ best_line was (first + p.place) p.span
best_push was first [] p = append-nil (best_line was (first + p.place) p.span)
best_push was first (q ∷ placed) p =
    ap (λ l. best_line was (first + q.place) q.span ++ l) (best_push was first placed p)
    ∙ sym (append_assoc (best_line was (first + q.place) q.span) (best_lines was first placed) (best_line was (first + p.place) p.span))

-- the lines up to one more
pub best_more : (was first number : ℕ) (all : List Placed) (i : ℕ) (d : Placed) (text after : List ℕ) → i < length all
    → text ≡ best_lines was first (take i all) → number ≡ first
    → after ≡ text ++ best_line was (number + (get_or all i d).place) (get_or all i d).span → after ≡ best_lines was first (take (i + 1) all)
best_more was first number all i d text after h so_far is put =
    let own : Placed = get_or all i d in
    put ∙ ap (λ l. l ++ best_line was (number + own.place) own.span) so_far
    ∙ ap (λ n. best_lines was first (take i all) ++ best_line was (n + own.place) own.span) is
    ∙ sym (best_push was first (take i all) own) ∙ ap (best_lines was first) (sym (take_more all i d h))

-- the answer of the best ends, from the rows that were swept
pub best_of : (sharing kept : Sharing) (over : Sweep) (most : ℕ) (input : List ℕ) (r : Recorded) (rows : List Row) (count first was : ℕ) (ends read : List ℕ)
    (all listed : List Placed) (made output : List ℕ) → IsTextOf input r → rows ≡ r.rows → count ≡ r.cowns → kept ≡ sharing
    → AreSwept (seen kept rows) count over ends → IsUnswept (seen kept rows) over was → read ≡ ends → AreRanked read all → listed ≡ all
    → first ≡ first_of over → made ≡ best_lines was first (take most listed) → output ≡ made → IsBestAnswer sharing over most input output
best_of sharing kept over most input r rows count first was ends read all listed made output spells same many way sweep unswept are ranked list from text is
    = record {
      recorded = r;
      spells = spells;
      ends = ends;
      sweep = subst (λ n. AreSwept (seen sharing r.rows) n over ends) many
          (subst (λ s. AreSwept (seen s r.rows) count over ends) way (subst (λ xs. AreSwept (seen kept xs) count over ends) same sweep));
      was = was;
      was_is = subst (λ s. IsUnswept (seen s r.rows) over was) way (subst (λ xs. IsUnswept (seen kept xs) over was) same unswept);
      best = take most all;
      best_are = record { all = all; ranked = subst (λ (l : List ℕ). AreRanked l all) are ranked; first_are = refl };
      text = is ∙ text ∙ ap (λ l. best_lines was first (take most l)) list ∙ ap (λ n. best_lines was n (take most all)) from;
    }

-- the places of so many ends fit in 32 bits
pub places_fit : (ends read : List ℕ) (placed shown : List Placed) → length ends ≤ MOST_ROWS → read ≡ ends → All (λ p. p.place < length read) placed
    → shown ≡ placed → All (λ p. p.place < 2 ^ 32) shown
places_fit ends read placed shown few same below is = subst (All (λ p. p.place < 2 ^ 32)) (sym is) (λ k d inside. fits (get_or placed k d).place (below k d inside))
  where
    same_length : length read ≡ length ends
    same_length = ap length same

    fits : (place : ℕ) → place < length read → place < 2 ^ 32
    fits place low = omega (arith, low, few, same_length)
