-- Which of the remedies that are tried are reported, and in which order.
use Rattle.std.specs.Prelude.{◌≡◌, ◌+◌, ◌*◌, ◌&&◌, ℕ, nat_lt, Bool, true, not, List, [], ◌∷◌, filter, Option, Some}
use Rattle.std.specs.List.{fold, list_any}
use Rattle.boc_remedies.specs.declared.candidates.Candidate.{Candidate}
use Rattle.boc_remedies.specs.declared.ends.Ends.{Ends}
use Rattle.boc_remedies.specs.Questions.{Asked}
use Rattle.boc_remedies.specs.declared.remedy.Remedy.{Remedy}
use Rattle.boc_remedies.specs.Ends.{AreAllEnds, judged}
use Rattle.boc_remedies.specs.InOrder.{put_before}
use Rattle.boc_remedies.specs.Remedies.{is_within}

-- each remedy with what it leaves
abbrev pub paired : List Remedy → List Ends → List Candidate
paired [] left = []
paired (remedy ∷ remedies) [] = []
paired (remedy ∷ remedies) (ends ∷ left) = record { remedy = remedy; ends = ends } ∷ paired remedies left

-- ---- nearly as good

-- Whether what leaves `left` of `now` ticks saves 75 of 100 ticks at least of what is saved by what leaves `other`. (Either may leave more than there was:
-- 75 (now - other) <= 100 (now - left) without a number below 0.)
abbrev pub brings_nearly : ℕ → ℕ → ℕ → Bool
brings_nearly now left other = not (nat_lt (now * 25 + other * 75) (left * 100))

-- the same of greedy plans, where there are any
abbrev pub brings_nearly_for : Option ℕ → Option ℕ → Option ℕ → Bool
brings_nearly_for (Some now) (Some left) (Some other) = brings_nearly now left other
brings_nearly_for now left other = true

-- whether the one saves nearly as much as the other by each measure
abbrev pub brings_nearly_as : Ends → Ends → Ends → Bool
brings_nearly_as now left other = brings_nearly_for now.greedy left.greedy other.greedy && brings_nearly now.span left.span other.span

-- ---- what is reported

-- whether another one, within a candidate, saves nearly as much
abbrev pub outdoes : Ends → Candidate → Candidate → Bool
outdoes now own other = is_within other.remedy own.remedy && brings_nearly_as now other.ends own.ends

-- whether a candidate is reported: none within it saves nearly as much
abbrev pub is_told : Ends → List Candidate → Candidate → Bool
is_told now all own = not (list_any (outdoes now own) all)

-- candidates with one more, after those that leave as much or less
abbrev pub ranked_with : List Candidate → Candidate → List Candidate
ranked_with ranked own = put_before (λ c. nat_lt (judged own.ends) (judged c.ends)) ranked own

-- the candidates that are reported: those that leave the least end first, and of equal ones the first that is tried
abbrev pub told : Ends → List Candidate → List Candidate
told now all = fold ranked_with [] (filter (is_told now all) all)

-- What is reported of the remedies that are tried: each with what it leaves, planned from nothing.
pub record AreCandidates (question : Asked) (now : Ends) (tried : List Remedy) (candidates : List Candidate) : Type 0 where
  pub left : List Ends
  pub left_are : AreAllEnds question tried left
  pub are : candidates ≡ told now (paired tried left)
