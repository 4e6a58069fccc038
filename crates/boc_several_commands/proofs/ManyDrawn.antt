-- What is drawn of a program for `why` where it reports on many runs.
use Rattle.std.proofs.Common.{◌≡◌, ◌+◌, ◌≤◌, ℕ, List, length, Option, Result, Ok, Err, MatchResult, refl, sym, subst}
use Rattle.std.specs.Result.{IsErrAnd}
use Rattle.boc_program.specs.declared.program.Program.{Program}
use Rattle.boc_program.specs.declared.limits.TheConstants.{MOST_TEXT}
use Rattle.boc_names.specs.declared.names.Names.{Names}
use Rattle.boc_draws.specs.declared.fault.DrawFault.{DrawFault}
use Rattle.boc_draws.specs.declared.fault.DrawFault.TheVariants as draw_faults
use Rattle.boc_draws.specs.declared.way.Way.{Way}
use Rattle.boc_draws.specs.Ways.{AnswersWay, IsWay}
use Rattle.boc_outcomes.specs.declared.asked.Asked.{Asked}
use Rattle.boc_many_runs.specs.declared.many.ManyRuns.{ManyRuns}
use Rattle.boc_many_runs.specs.Many.{AnswersMany}
use Rattle.boc_many_runs_report.specs.declared.told.ManyTold.{ManyTold}
use Rattle.boc_many_runs_report.specs.ManyTexts.{IsManyText}
use Rattle.boc_text.specs.Streams.{ReadsWhole}
use Rattle.boc_words.specs.declared.asked.AskedRuns.{AskedRuns}
use Rattle.boc_workers.specs.declared.fault.RunFault.TheVariants as runs
use Rattle.boc_run_commands.specs.declared.fault.Fault.{Fault}
use Rattle.boc_run_commands.specs.declared.fault.Fault.TheVariants as faults
use Rattle.boc_run_commands.specs.declared.fault.InputFault.TheVariants as inputs
use Rattle.boc_run_commands.specs.declared.fault.Want.TheVariants as wants
use Rattle.boc_run_commands.specs.Faults.{of_draw}
use Rattle.boc_run_commands.specs.OutcomesAnswers.{drawn_in}
use Rattle.boc_several_commands.specs.WhyRuns.{AreRunsIn, AreRunsTold, HasNoRoomForRuns, IsOfRunsTold, IsOfWhyRuns, IsProgramNamed, RefusesWhyRuns, counting, drawing}
use Rattle.boc_several_commands.specs.WhyRuns.{judged_in}
use Rattle.boc_several_commands.specs.declared.why_runs.RunsTold.{RunsTold}

-- ---- answers

-- what is answered of the runs of the program that was compiled
many_in : (asked : AskedRuns) (program compiled : Program) (names : Names) (way : Way) (draws : Asked) (families : List ℕ) (result : Result ManyRuns DrawFault)
    → compiled ≡ program → draws ≡ drawn_in asked.draws way → families ≡ names.families.items
    → AnswersMany compiled draws (record { families = families; sharing = asked.sharing; workers = asked.workers }) result
    → AnswersMany program (drawn_in asked.draws way) (judged_in names asked) result
many_in asked program compiled names way draws families result same draws_are families_are is =
    subst (λ (xs : List ℕ). AnswersMany program (drawn_in asked.draws way) (record { families = xs; sharing = asked.sharing; workers = asked.workers }) result)
    families_are (subst (λ (d : Asked). AnswersMany program d (record { families = families; sharing = asked.sharing; workers = asked.workers }) result) draws_are
    (subst (λ (p : Program). AnswersMany p draws (record { families = families; sharing = asked.sharing; workers = asked.workers }) result) same is))

-- what was found of the runs, and its text
pub runs_told : (asked : AskedRuns) (program compiled : Program) (names : Names) (way : Way) (draws : Asked) (families : List ℕ) (plan : Option ℕ)
    (many : ManyRuns) (text : List ℕ) → compiled ≡ program → draws ≡ drawn_in asked.draws way → families ≡ names.families.items → plan ≡ asked.workers
    → IsWay compiled asked.draws.workers asked.draws.depth way
    → AnswersMany compiled draws (record { families = families; sharing = asked.sharing; workers = asked.workers }) (Ok many)
    → IsManyText names (record { asked = draws; plan_workers = plan }) many text → AreRunsTold program names asked many text
runs_told asked program compiled names way draws families plan many text same draws_are families_are plan_is is_way found is = record {
  way = way;
  is_way = subst (λ (p : Program). IsWay p asked.draws.workers asked.draws.depth way) same is_way;
  many_are = many_in asked program compiled names way draws families (Ok many) same draws_are families_are found;
  text = subst (λ (told : ManyTold). IsManyText names told many text) (λ i. record { asked = draws_are i; plan_workers = plan_is i }) is;
}

-- ---- refusals

-- a draw had no room for a behaviour, or memory was refused
over_or_memory : (asked : AskedRuns) (program : Program) (names : Names) (fault : DrawFault)
    → (fault ≡ draw_faults.Behaviours → HasNoRoomForRuns program names asked) → IsOfRunsTold program names asked (of_draw fault)
over_or_memory asked program names draw_faults.Memory over = tt
over_or_memory asked program names draw_faults.Behaviours over = over refl

-- of the draw that counts the steps of a way
pub refused_way : (asked : AskedRuns) (program compiled : Program) (names : Names) (fault : DrawFault) → compiled ≡ program
    → AnswersWay compiled asked.draws.workers asked.draws.depth (Err fault) → IsOfRunsTold program names asked (of_draw fault)
refused_way asked program compiled names fault same out =
    over_or_memory asked program names fault (λ is. counting (subst (λ (f : DrawFault). AnswersWay program asked.draws.workers asked.draws.depth (Err f)) is
    (subst (λ (p : Program). AnswersWay p asked.draws.workers asked.draws.depth (Err fault)) same out)))

-- of those that are asked for
pub refused_many : (asked : AskedRuns) (program compiled : Program) (names : Names) (way : Way) (draws : Asked) (families : List ℕ) (fault : DrawFault)
    → compiled ≡ program → draws ≡ drawn_in asked.draws way → families ≡ names.families.items
    → IsWay compiled asked.draws.workers asked.draws.depth way
    → AnswersMany compiled draws (record { families = families; sharing = asked.sharing; workers = asked.workers }) (Err fault)
    → IsOfRunsTold program names asked (of_draw fault)
refused_many asked program compiled names way draws families fault same draws_are families_are is_way out =
    over_or_memory asked program names fault
    (λ is. drawing way (subst (λ (p : Program). IsWay p asked.draws.workers asked.draws.depth way) same is_way)
    (subst (λ (f : DrawFault). AnswersMany program (drawn_in asked.draws way) (judged_in names asked) (Err f)) is
    (many_in asked program compiled names way draws families (Err fault) same draws_are families_are out)))

-- a fault of the runs of the program that a text spells
of_runs : (asked : AskedRuns) (text : List ℕ) (program : Program) (names : Names) (fault : Fault) → IsProgramNamed text program names
    → IsOfRunsTold program names asked fault → IsOfWhyRuns asked text fault
of_runs asked text program names (faults.Run runs.Behaviours) named over = record { program = program; names = names; named = named; over = over }
of_runs asked text program names (faults.Means wants.Memory) named over = tt
of_runs asked text program names _ named over = absurd over

-- what the runs of the program say that a text spells
pub in_text : (asked : AskedRuns) (text : List ℕ) (program : Program) (names : Names) (result : Result RunsTold Fault) → IsProgramNamed text program names
    → MatchResult result (λ told. AreRunsTold program names asked told.many told.text.items) (IsOfRunsTold program names asked)
    → MatchResult result (λ told. AreRunsIn asked text told.many told.text.items × (length text ≤ MOST_TEXT)) (IsOfWhyRuns asked text)
in_text asked text program names (Ok told) named is = (record { program = program; names = names; named = named; told = is }, named.spells.short)
in_text asked text program names (Err fault) named is = of_runs asked text program names fault named is

-- many runs are refused for the text that was taken
pub refused_runs : (asked : AskedRuns) (result : Result (Unit {0}) Fault) (fault : Fault) (text : List ℕ) (before after : Option (List ℕ))
    → IsErrAnd result (λ f. f ≡ fault) → ReadsWhole before after text (MOST_TEXT + 1) → IsOfWhyRuns asked text fault
    → RefusesWhyRuns asked result before after
refused_runs asked (Ok done) fault text before after h reads is = absurd h
refused_runs asked (Err f) fault text before after h reads is =
    subst (λ (x : Fault). RefusesWhyRuns {A = Unit {0}} asked (Err x) before after) (sym h) (go fault is)
  where
    go : (x : Fault) → IsOfWhyRuns asked text x → RefusesWhyRuns {A = Unit {0}} asked (Err x) before after
    go (faults.Input (inputs.Program r)) is = record { input = text; taken = reads; known = is }
    go (faults.Run runs.Behaviours) is = record { input = text; taken = reads; known = is }
    go (faults.Means wants.Memory) is = tt
    go _ is = absurd is
