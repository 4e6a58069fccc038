-- What is told of many runs counts each run once.
use Rattle.std.proofs.Common.{◌≡◌, ◌∙◌, ℕ, ◌≤◌, List, map, ap}
use Rattle.std.specs.List.{sum_by}
use Rattle.std.proofs.lemmas.List.{length-map}
use Rattle.boc_program.specs.declared.program.Program.{Program}
use Rattle.boc_outcomes.specs.declared.asked.Asked.{Asked}
use Rattle.boc_many_runs.specs.declared.many.ManyRuns.{ManyRuns}
use Rattle.boc_many_runs.specs.declared.seen.Numbers.{Numbers}
use Rattle.boc_many_runs.specs.Many.{IsManyRuns}
use Rattle.boc_many_runs.specs.Runs.{Found, Manner}
use Rattle.boc_many_runs.specs.Union.{union_of}
use Rattle.boc_many_runs.proofs.AddingUp.{bests_add_up, bins_add_up}
use Rattle.boc_many_runs.proofs.Spreading.{bounds}

pub all_in_bins : (p : Program) (asked : Asked) (m : Manner) (many : ManyRuns) → IsManyRuns p asked m many
    → sum_by (λ b. b.runs) many.bins.items ≡ asked.runs
all_in_bins p asked m many is =
    let numbers : List Numbers = map (λ (f : Found). f.numbers) is.all in
    let ends : List ℕ = map (λ (n : Numbers). n.end) numbers in
    let end = many.spreads.end in
    ap (sum_by (λ b. b.runs)) is.told.bins
    ∙ bins_add_up ends end.least end.most (bounds ends end.least end.median end.most is.told.spreads.end)
    ∙ length-map numbers (λ (n : Numbers). n.end) ∙ length-map is.all (λ (f : Found). f.numbers) ∙ is.all_are.long

pub few_best : (p : Program) (asked : Asked) (m : Manner) (many : ManyRuns) → IsManyRuns p asked m many
    → sum_by (λ l. l.best_in) many.lines.items ≤ asked.runs
few_best p asked m many is = bests_add_up (union_of is.all) is.columns asked.runs many.lines.items is.told.lines
