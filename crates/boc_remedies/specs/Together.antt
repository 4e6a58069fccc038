-- Several cowns at once.
use Rattle.std.specs.Prelude.{◌≡◌, ◌-◌, ◌==◌, ◌&&◌, ◌||◌, ◌++◌, ℕ, nat_lt, max, Bool, true, not, cond, List, [], ◌∷◌, length, map, flat_map, Option, Some, None}
use Rattle.std.specs.List.{fold, list_all, range_with_len}
use Rattle.boc_remedies.specs.declared.ends.Ends.{Ends}
use Rattle.boc_remedies.specs.declared.looked_at.LookedAt.{LookedAt}
use Rattle.boc_remedies.specs.Questions.{Asked}
use Rattle.boc_remedies.specs.declared.remedy.Remedy.TheVariants.{NoOrder}
use Rattle.boc_remedies.specs.declared.together.Together.{Together}
use Rattle.boc_remedies.specs.Ends.{AreAllEnds}
use Rattle.boc_remedies.specs.Families.{comes_before, joined}
use Rattle.boc_remedies.specs.LookedAt.{AreLookedAt, AreSetsLeft}
use Rattle.boc_remedies.specs.Tried.{added_set, of_several}

-- ---- the best sets

-- whether the one set leaves less than another that was found, or as much and comes first
abbrev pub goes_before : LookedAt → Option LookedAt → Bool
goes_before own None = true
goes_before own (Some best) = nat_lt own.span best.span || ((own.span == best.span) && comes_before own.families best.families)

-- of two sets the one that goes before, where it has so many families
abbrev pub better_of : ℕ → Option LookedAt → LookedAt → Option LookedAt
better_of size best own = cond ((length own.families == size) && goes_before own best) (Some own) best

-- the best set of so many families, if there is one
abbrev pub best_of_size : List LookedAt → ℕ → Option LookedAt
best_of_size looked size = fold (better_of size) None looked

-- whether a set leaves less than each set of fewer families
abbrev pub leaves_less : List LookedAt → LookedAt → Bool
leaves_less looked own = list_all (λ l. not (nat_lt (length l.families) (length own.families)) || nat_lt own.span l.span) looked

-- the families of a set, where there is one that leaves less than each set of fewer
abbrev pub best_set : List LookedAt → Option LookedAt → List (List ℕ)
best_set looked None = []
best_set looked (Some own) = cond (leaves_less looked own) (own.families ∷ []) []

-- the number of families of the largest set
abbrev pub most_families : List LookedAt → ℕ
most_families looked = fold (λ most l. max most (length l.families)) 0 looked

-- for each number of families from 2 on the best set, where it leaves less than each set of fewer
abbrev pub best_sets : List LookedAt → List (List ℕ)
best_sets looked = flat_map (λ size. best_set looked (best_of_size looked size)) (range_with_len 2 (most_families looked - 1))

-- ---- what they leave

-- a line for each of some sets, and then one for every cown
abbrev pub lines_of : List (List ℕ) → List Ends → List Together
lines_of sets [] = []
lines_of [] (ends ∷ left) = record { families = None; ends = ends } ∷ []
lines_of (set ∷ sets) (ends ∷ left) = record { families = Some set; ends = ends } ∷ lines_of sets left

-- for each of some sets, and then for every cown, what is left without their order, planned from nothing
pub record AreTogether (question : Asked) (sets : List (List ℕ)) (lines : List Together) : Type 0 where
  pub left : List Ends
  pub left_are : AreAllEnds question (map NoOrder (sets ++ joined [] question.families ∷ [])) left
  pub are : lines ≡ lines_of sets left

-- ---- for the table of cowns

-- What is left without each link set of two or more of the chain, then without the best sets of several cowns that aren't among them, and then without every
-- cown.
pub record AreCownsTogetherOf (question : Asked) (span : ℕ) (of_chain : List (List ℕ)) (lines : List Together) : Type 0 where
  pub looked : List LookedAt
  pub looked_are : AreLookedAt question span looked
  pub are : AreTogether question (fold added_set (of_several of_chain) (best_sets looked)) lines

-- the same; nothing where the chain hands no cown on
pub record AreCownsTogether (question : Asked) (span : ℕ) (lines : List Together) : Type 0 where
  pub of_chain : List (List ℕ)
  pub of_chain_are : AreSetsLeft question question.rows of_chain
  pub nothing : of_chain ≡ [] → lines ≡ []
  pub lines_are : (of_chain ≡ [] → ⊥) → AreCownsTogetherOf question span of_chain lines
