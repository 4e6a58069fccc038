-- What is drawn of a program for `outcomes`.
use Rattle.std.proofs.Common.{◌≡◌, ◌+◌, ◌∙◌, ℕ, List, get_or, length, Option, Result, Ok, Err, Some, refl, sym, ap, subst}
use Rattle.std.specs.Prelude.{slice_get}
use Rattle.std.specs.List.{All}
use Rattle.std.specs.Result.{IsErrAnd}
use Rattle.std.proofs.lemmas.Option.{slice_get-get_or}
use Rattle.boc_program.specs.declared.cown.Cown.{Cown}
use Rattle.boc_program.specs.declared.program.Program.{Program}
use Rattle.boc_program.specs.Programs.{cown_count}
use Rattle.boc_program.specs.declared.limits.TheConstants.{MOST_TEXT}
use Rattle.boc_reader.specs.Spells.{Spells}
use Rattle.boc_machine_laws.proofs.Members.{values_length}
use Rattle.boc_draws.specs.declared.fault.DrawFault.{DrawFault}
use Rattle.boc_draws.specs.declared.fault.DrawFault.TheVariants as draw_faults
use Rattle.boc_draws.specs.declared.way.Way.{Way}
use Rattle.boc_draws.specs.Ways.{AnswersWay, IsWay}
use Rattle.boc_outcomes.specs.declared.asked.Asked.{Asked}
use Rattle.boc_outcomes.specs.declared.tally.Outcome.{Outcome}
use Rattle.boc_outcomes.specs.declared.tally.Outcomes.{Outcomes}
use Rattle.boc_outcomes.specs.Samples.{IsSample, Sample, seed_of}
use Rattle.boc_outcomes.specs.Tallies.{AnswersAsked}
use Rattle.boc_ends_report.specs.OutcomeTexts.{HasAllValues, outcomes_text}
use Rattle.boc_text.specs.Streams.{ReadsWhole}
use Rattle.boc_words.specs.declared.asked.AskedDraws.{AskedDraws}
use Rattle.boc_workers.specs.declared.fault.RunFault.TheVariants as runs
use Rattle.boc_run_commands.specs.declared.fault.Fault.{Fault}
use Rattle.boc_run_commands.specs.declared.fault.Fault.TheVariants as faults
use Rattle.boc_run_commands.specs.declared.fault.InputFault.TheVariants as inputs
use Rattle.boc_run_commands.specs.declared.fault.Want.TheVariants as wants
use Rattle.boc_run_commands.specs.Faults.{of_draw}
use Rattle.boc_run_commands.specs.OutcomesAnswers.{HasNoRoomIn, IsOfDraws, IsOutcomesAnswer, RefusesDraws, counting, drawing, drawn_in}

-- ---- values

-- a run that was drawn has a value for each cown at its end
sample_values : (p : Program) (workers : ℕ) (way : Way) (seed : ℕ) (sample : Sample) → IsSample p workers way seed sample
    → length sample.values ≡ cown_count p.cowns
sample_values p workers way seed sample is =
    ap length (is.values_are ∙ is.is_draw.values_are) ∙ values_length p is.is_draw.end.state.log

-- and so has each outcome
outcome_values : (p : Program) (asked : Asked) (outcomes : Outcomes) → AnswersAsked p asked (Ok outcomes) → (i : ℕ) (outcome : Outcome)
    → slice_get outcomes.all.items i ≡ Some outcome → HasAllValues p.cowns outcome
outcome_values p asked outcomes ends i outcome there =
    let first = (ends.2.outcomes_are.each i outcome there).first in
    ap length (sym first.same)
    ∙ sample_values p asked.workers asked.way (seed_of asked.seed outcome.first) first.sample (ends.1.each outcome.first first.sample first.there)

pub all_values : (p : Program) (cowns : List Cown) (asked : Asked) (outcomes : Outcomes) → cowns ≡ p.cowns → AnswersAsked p asked (Ok outcomes)
    → All (HasAllValues cowns) outcomes.all.items
all_values p cowns asked outcomes same ends = subst (λ (cs : List Cown). All (HasAllValues cs) outcomes.all.items) (sym same)
    (λ k d l. outcome_values p asked outcomes ends k (get_or outcomes.all.items k d) (slice_get-get_or outcomes.all.items k d l))

-- ---- answers

-- the draws that are asked for, with numbers that were taken out of the words
pub asked_in : (draws : AskedDraws) (way : Way) (runs workers : ℕ) → runs ≡ draws.runs → workers ≡ draws.workers
    → record { runs = runs; seed = draws.seed; workers = workers; way = way } ≡ drawn_in draws way
asked_in draws way runs workers runs_are workers_are = λ i. record { runs = runs_are i; seed = draws.seed; workers = workers_are i; way = way }

-- the ends that were found, and their text
pub told_ends : (draws : AskedDraws) (text : List ℕ) (p : Program) (cowns : List Cown) (way : Way) (runs workers : ℕ) (outcomes : Outcomes) (made : List ℕ)
    → Spells text p → runs ≡ draws.runs → workers ≡ draws.workers → cowns ≡ p.cowns → IsWay p workers draws.depth way
    → AnswersAsked p (record { runs = runs; seed = draws.seed; workers = workers; way = way }) (Ok outcomes)
    → made ≡ outcomes_text cowns runs outcomes → IsOutcomesAnswer draws text made
told_ends draws text p cowns way runs workers outcomes made spells runs_are workers_are same is_way ends is = record {
  program = p;
  spells = spells;
  way = way;
  is_way = subst (λ (n : ℕ). IsWay p n draws.depth way) workers_are is_way;
  outcomes = outcomes;
  ends = subst (λ (a : Asked). AnswersAsked p a (Ok outcomes)) (asked_in draws way runs workers runs_are workers_are) ends;
  text = is ∙ ap (λ (cs : List Cown). outcomes_text cs runs outcomes) same ∙ ap (λ (n : ℕ). outcomes_text p.cowns n outcomes) runs_are;
}

-- ---- refusals

-- a draw had no room for a behaviour, or memory was refused
over_or_memory : (draws : AskedDraws) (text : List ℕ) (p : Program) (fault : DrawFault) → Spells text p
    → (fault ≡ draw_faults.Behaviours → HasNoRoomIn p draws) → IsOfDraws draws text (of_draw fault)
over_or_memory draws text p draw_faults.Memory spells over = tt
over_or_memory draws text p draw_faults.Behaviours spells over = record { program = p; spells = spells; over = over refl }

-- of the draw that counts the steps of a way
pub refused_way : (draws : AskedDraws) (text : List ℕ) (p : Program) (workers : ℕ) (fault : DrawFault) → Spells text p → workers ≡ draws.workers
    → AnswersWay p workers draws.depth (Err fault) → IsOfDraws draws text (of_draw fault)
refused_way draws text p workers fault spells workers_are out =
    over_or_memory draws text p fault spells (λ is. counting (subst (λ (f : DrawFault). AnswersWay p draws.workers draws.depth (Err f)) is
    (subst (λ (n : ℕ). AnswersWay p n draws.depth (Err fault)) workers_are out)))

-- of those that are asked for
pub refused_ends : (draws : AskedDraws) (text : List ℕ) (p : Program) (way : Way) (runs workers : ℕ) (fault : DrawFault) → Spells text p
    → runs ≡ draws.runs → workers ≡ draws.workers → IsWay p workers draws.depth way
    → AnswersAsked p (record { runs = runs; seed = draws.seed; workers = workers; way = way }) (Err fault) → IsOfDraws draws text (of_draw fault)
refused_ends draws text p way runs workers fault spells runs_are workers_are is_way out =
    over_or_memory draws text p fault spells (λ is. drawing way (subst (λ (n : ℕ). IsWay p n draws.depth way) workers_are is_way)
    (subst (λ (f : DrawFault). AnswersAsked p (drawn_in draws way) (Err f)) is
    (subst (λ (a : Asked). AnswersAsked p a (Err fault)) (asked_in draws way runs workers runs_are workers_are) out)))

-- draws are refused for the text that was taken
pub refused_draws : (draws : AskedDraws) (result : Result (Unit {0}) Fault) (fault : Fault) (text : List ℕ) (before after : Option (List ℕ))
    → IsErrAnd result (λ f. f ≡ fault) → ReadsWhole before after text (MOST_TEXT + 1) → IsOfDraws draws text fault
    → RefusesDraws draws result before after
refused_draws draws (Ok done) fault text before after h reads is = absurd h
refused_draws draws (Err f) fault text before after h reads is =
    subst (λ (x : Fault). RefusesDraws {A = Unit {0}} draws (Err x) before after) (sym h) (go fault is)
  where
    go : (x : Fault) → IsOfDraws draws text x → RefusesDraws {A = Unit {0}} draws (Err x) before after
    go (faults.Input (inputs.Program r)) is = record { input = text; taken = reads; known = is }
    go (faults.Run runs.Behaviours) is = record { input = text; taken = reads; known = is }
    go (faults.Means wants.Memory) is = tt
    go _ is = absurd is
