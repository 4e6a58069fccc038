-- One change after another.
use Rattle.std.specs.Prelude.{◌≡◌, ◌&&◌, ℕ, zero, suc, nat_lt, List, [], ◌∷◌, ◌++◌, length, cond, filter, not, Bool, true, Option, Some, None, option_map}
use Rattle.std.specs.List.{fold, list_any}
use Rattle.boc_runs.specs.declared.rows.Row.{Row}
use Rattle.boc_runs.specs.Rows.{IsRows}
use Rattle.boc_plans.specs.Seen.{seen}
use Rattle.boc_why.specs.declared.why.Why.{Why}
use Rattle.boc_why.specs.Why.{IsWhy}
use Rattle.boc_remedies.specs.declared.candidates.Candidate.{Candidate}
use Rattle.boc_remedies.specs.declared.ends.Ends.{Ends}
use Rattle.boc_remedies.specs.declared.greedy_why.GreedyWhy.{GreedyWhy}
use Rattle.boc_remedies.specs.Questions.{Asked}
use Rattle.boc_remedies.specs.declared.remedy.Remedy.{Remedy}
use Rattle.boc_remedies.specs.Chains.{AreChains, Known}
use Rattle.boc_remedies.specs.Ends.{AreAllEnds, judged}
use Rattle.boc_remedies.specs.GreedyWhys.{IsGreedyWhy}
use Rattle.boc_remedies.specs.Remedies.{AreRowsAfter, is_same, is_within}
use Rattle.boc_remedies.specs.Told.{brings_nearly, paired}
use Rattle.boc_remedies.specs.Tried.{tried}

-- ---- what is taken

-- those of some remedies that no step has taken
abbrev pub others : List Candidate → List Remedy → List Remedy
others steps remedies = filter (λ r. not (list_any (λ s. is_same s.remedy r) steps)) remedies

-- whether another one, within a candidate, saves nearly as much by the end by which rows are judged
abbrev pub outdoes_step : Ends → Candidate → Candidate → Bool
outdoes_step now own other = is_within other.remedy own.remedy && brings_nearly (judged now) (judged other.ends) (judged own.ends)

-- whether a candidate may be taken: it saves something, and none within it saves nearly as much
abbrev pub may_be_taken : Ends → List Candidate → Candidate → Bool
may_be_taken now all own = nat_lt (judged own.ends) (judged now) && not (list_any (outdoes_step now own) all)

-- whether a candidate leaves a sooner end than another that was found
abbrev pub is_sooner : Candidate → Option Candidate → Bool
is_sooner own None = true
is_sooner own (Some best) = nat_lt (judged own.ends) (judged best.ends)

-- of two candidates the one that leaves the sooner end, where it may be taken
abbrev pub better_step : Ends → List Candidate → Option Candidate → Candidate → Option Candidate
better_step now all best own = cond (is_sooner own best && may_be_taken now all own) (Some own) best

-- of those that may be taken the one that leaves the soonest end, and of equal ones the first
abbrev pub best_taken : Ends → List Candidate → Option Candidate
best_taken now all = fold (better_step now all) None all

-- ---- steps

-- why the greedy plan takes as long as it does, where a number of workers is given
abbrev pub IsGreedyAsked : Asked → Option ℕ → Option GreedyWhy → Type 0
IsGreedyAsked question None greedy = greedy ≡ None
IsGreedyAsked question (Some p) None = ⊥
IsGreedyAsked question (Some p) (Some greedy) = IsGreedyWhy (seen question.sharing question.rows) p question.defs greedy

-- the ends of the rows as they are
abbrev pub ends_now : Why → Option GreedyWhy → Ends
ends_now why greedy = record { span = why.profile.span; greedy = option_map (λ g. g.end) greedy }

-- the best change of the rows on top of those that were made before
pub record IsBestStep (question : Asked) (before : List Candidate) (step : Option Candidate) : Type 0 where
  pub why : Why
  pub is_why : IsWhy question.rows question.sharing question.defs (length question.families) why
  pub greedy : Option GreedyWhy
  pub is_greedy : IsGreedyAsked question question.workers greedy
  pub chains : List Known
  pub chains_are : AreChains question.families why greedy chains
  pub left : List Ends
  pub left_are : AreAllEnds question (others before (tried question.families chains)) left
  pub is : step ≡ best_taken (ends_now why greedy) (paired (others before (tried question.families chains)) left)

-- the same question of other rows
abbrev pub of_rows : Asked → List Row → Asked
of_rows question rows = record question { rows = rows }

-- So many steps at most, on top of those that were made: each is the best on the rows that the one before it leaves, which are rows of a record again; where
-- there are fewer, none brings anything after the last one.
abbrev pub AreStepsFrom : Asked → ℕ → List Candidate → List Candidate → Type 0
AreStepsFrom question zero before steps = steps ≡ []
AreStepsFrom question (suc most) before [] = IsBestStep question before None
AreStepsFrom question (suc most) before (step ∷ steps) = (after : List Row) × IsBestStep question before (Some step) × AreRowsAfter question step.remedy after
    × IsRows after × AreStepsFrom (of_rows question after) most (before ++ step ∷ []) steps

-- the best change of the rows, then the best on top of it, and so on, up to so many
abbrev pub AreSteps : Asked → ℕ → List Candidate → Type 0
AreSteps question most steps = AreStepsFrom question most [] steps
