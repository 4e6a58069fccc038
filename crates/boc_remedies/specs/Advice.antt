-- What would bring the end of some rows forward.
use Rattle.std.specs.Prelude.{◌≡◌, ℕ, Bool, false, not, List, [], filter, length, Option}
use Rattle.std.specs.List.{list_any}
use Rattle.boc_why.specs.declared.why.Why.{Why}
use Rattle.boc_why.specs.Why.{IsWhy, SayTheSame}
use Rattle.boc_remedies.specs.declared.advice.Advice.{Advice}
use Rattle.boc_remedies.specs.declared.advice.Advised.{Advised}
use Rattle.boc_remedies.specs.declared.candidates.Candidate.{Candidate}
use Rattle.boc_remedies.specs.declared.ends.Ends.{Ends}
use Rattle.boc_remedies.specs.declared.greedy_why.GreedyWhy.{GreedyWhy}
use Rattle.boc_remedies.specs.declared.looked_at.LookedAt.{LookedAt}
use Rattle.boc_remedies.specs.Questions.{Asked}
use Rattle.boc_remedies.specs.declared.remedy.Remedy.{Remedy}
use Rattle.boc_remedies.specs.declared.remedy.Remedy.TheVariants.{NoOrder}
use Rattle.boc_remedies.specs.declared.together.Together.{Together}
use Rattle.boc_remedies.specs.Chains.{AreChains, Known}
use Rattle.boc_remedies.specs.Steps.{IsGreedyAsked, ends_now}
use Rattle.boc_remedies.specs.Families.{is_same_set}
use Rattle.boc_remedies.specs.GreedyWhys.{SayTheSameIfAsked}
use Rattle.boc_remedies.specs.LookedAt.{AreLookedAt}
use Rattle.boc_remedies.specs.Together.{AreTogether, best_sets}
use Rattle.boc_remedies.specs.Told.{AreCandidates}
use Rattle.boc_remedies.specs.Tried.{handed_families, tried}

-- whether a remedy leaves out just these families
abbrev pub leaves_out : List ℕ → Remedy → Bool
leaves_out set (NoOrder own) = is_same_set own set
leaves_out set remedy = false

-- whether a set is no candidate
abbrev pub is_untold : List Candidate → List ℕ → Bool
is_untold candidates set = not (list_any (λ c. leaves_out set c.remedy) candidates)

-- those of some sets that are no candidates
abbrev pub untold : List Candidate → List (List ℕ) → List (List ℕ)
untold candidates sets = filter (is_untold candidates) sets

-- the best sets of several cowns at once that are no candidates, and every cown, with what they leave
pub record AreTogetherFor (question : Asked) (span : ℕ) (candidates : List Candidate) (lines : List Together) : Type 0 where
  pub looked : List LookedAt
  pub looked_are : AreLookedAt question span looked
  pub are : AreTogether question (untold candidates (best_sets looked)) lines

-- What would bring the end of some rows forward, of whose chains this is known: what is reported of what is tried for them, best first; and, where one of them
-- hands a cown on, several cowns at once.
pub record IsAdvice (question : Asked) (chains : List Known) (now : Ends) (advice : Advice) : Type 0 where
  pub now_are : advice.now ≡ now
  pub candidates : AreCandidates question now (tried question.families chains) advice.candidates.items
  pub nothing : handed_families question.families chains ≡ [] → advice.together.items ≡ []
  pub several : (handed_families question.families chains ≡ [] → ⊥) → AreTogetherFor question now.span advice.candidates.items advice.together.items

-- the same of these chains
pub record IsAdviceOf (question : Asked) (why : Why) (greedy : Option GreedyWhy) (advice : Advice) : Type 0 where
  pub chains : List Known
  pub chains_are : AreChains question.families why greedy chains
  pub is : IsAdvice question chains (ends_now why greedy) advice

-- Why the rows take as long as they do, why their greedy plan does, where a number of workers is given, and what would bring their end forward.
pub record IsAdvised (question : Asked) (advised : Advised) : Type 0 where
  pub is_why : IsWhy question.rows question.sharing question.defs (length question.families) advised.why
  pub is_greedy : IsGreedyAsked question question.workers advised.greedy
  pub is_advice : IsAdviceOf question advised.why advised.greedy advised.advice

-- two say the same, though they stand in other memory
pub record AdviseTheSame (advised other : Advised) : Type 0 where
  pub why : SayTheSame advised.why other.why
  pub greedy : SayTheSameIfAsked advised.greedy other.greedy
  pub now : advised.advice.now ≡ other.advice.now
  pub candidates : advised.advice.candidates.items ≡ other.advice.candidates.items
  pub together : advised.advice.together.items ≡ other.advice.together.items
