-- What is tried in several runs.
use Rattle.std.specs.Prelude.{◌+◌, nat_lt, cond, List, [], ◌∷◌, map, flat_map, take}
use Rattle.std.specs.List.{fold}
use Rattle.boc_remedies.specs.declared.remedy.Remedy.{Remedy}
use Rattle.boc_remedies.specs.InOrder.{put_before}
use Rattle.boc_remedies.specs.Remedies.{is_same}
use Rattle.boc_many_runs.specs.declared.counted.Counted.{Counted}
use Rattle.boc_many_runs.specs.declared.counted.TheConstants.{MOST_JUDGED}
use Rattle.boc_many_runs.specs.Runs.{Found}

-- the remedies that were tried so far, each with the number of runs that try it, and after one more run tries this one
abbrev pub counted : List Counted → Remedy → List Counted
counted [] remedy = record { remedy = remedy; runs = 1 } ∷ []
counted (c ∷ all) remedy = cond (is_same c.remedy remedy) (record c { runs = c.runs + 1 } ∷ all) (c ∷ counted all remedy)

-- each remedy that some run tries, where it comes first, run by run, with the number of runs that try it
abbrev pub counts : List Found → List Counted
counts all = fold counted [] (flat_map (λ f. f.tried) all)

-- the remedies that most runs try and one more, after those that as many or more do
abbrev pub ranked_with : List Counted → Counted → List Counted
ranked_with best own = take MOST_JUDGED (put_before (λ c. nat_lt c.runs own.runs) best own)

-- those that most runs try first, of equal ones the first that is tried, and of these the first 60
abbrev pub most_tried : List Counted → List Remedy
most_tried all = map (λ c. c.remedy) (fold ranked_with [] all)

-- the remedies that are judged in all runs
abbrev pub union_of : List Found → List Remedy
union_of all = most_tried (counts all)
