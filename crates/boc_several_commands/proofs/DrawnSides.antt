-- The runs that are drawn of two programs, and what is told of both.
use Rattle.std.proofs.Common.{◌≡◌, ◌+◌, ◌≤◌, List, length, Option, Result, Ok, Err, MatchResult, ◌∙◌, refl, sym, subst}
use Rattle.std.specs.Result.{IsErrAnd}
use Rattle.boc_program.specs.declared.limits.TheConstants.{MOST_TEXT}
use Rattle.boc_program.specs.declared.program.Program.{Program}
use Rattle.boc_reader.specs.Spells.{Spells}
use Rattle.boc_names.specs.Names.{Text}
use Rattle.boc_draws.specs.declared.fault.DrawFault.{DrawFault}
use Rattle.boc_draws.specs.declared.fault.DrawFault.TheVariants as draw_faults
use Rattle.boc_draws.specs.declared.way.Way.{Way}
use Rattle.boc_draws.specs.Ways.{AnswersWay, IsWay}
use Rattle.boc_outcomes.specs.declared.asked.Asked.{Asked}
use Rattle.boc_many_runs.specs.declared.seen.Numbers.{Numbers}
use Rattle.boc_many_runs.specs.Many.{AreNumbersTold}
use Rattle.boc_many_runs.specs.Passes.{HasNoRoomIn}
use Rattle.boc_many_runs.specs.Runs.{AreNumbersOfRuns}
use Rattle.boc_text.specs.Streams.{ReadsWhole}
use Rattle.boc_words.specs.declared.asked.AskedRuns.{AskedRuns}
use Rattle.boc_workers.specs.declared.fault.RunFault.TheVariants as runs
use Rattle.boc_run_commands.specs.declared.fault.Fault.{Fault}
use Rattle.boc_run_commands.specs.declared.fault.Fault.TheVariants as faults
use Rattle.boc_run_commands.specs.declared.fault.InputFault.TheVariants as inputs
use Rattle.boc_run_commands.specs.declared.fault.Want.TheVariants as wants
use Rattle.boc_run_commands.specs.Faults.{of_draw}
use Rattle.boc_run_commands.specs.OutcomesAnswers.{drawn_in}
use Rattle.boc_several_commands.specs.CompareRuns.{AreDrawn, HasNoRoomToCompare, IsDrawnSide, IsOfCompareRuns, IsOfDrawing, IsOfDrawn, AreRunsCompared}
use Rattle.boc_several_commands.specs.CompareRuns.{RefusesCompareRuns, counting, drawing, judged_by, less_count, same_count}
use Rattle.boc_several_commands.specs.declared.compare.Which.{Which}
use Rattle.boc_several_commands.specs.declared.compare.Which.TheVariants.{Before, After}
use Rattle.boc_several_commands.specs.declared.compare_runs.DrawnSide.{DrawnSide}
use Rattle.boc_several_commands.specs.declared.runs_text.RunsCompared.{RunsCompared}
use Rattle.boc_several_commands.specs.RunsTexts.{IsRunsText}

-- ---- one side

-- a draw had no room for a behaviour, or memory was refused
over_or_memory : (program : Program) (asked : AskedRuns) (fault : DrawFault) → (fault ≡ draw_faults.Behaviours → HasNoRoomToCompare program asked)
    → IsOfDrawing program asked (of_draw fault)
over_or_memory program asked draw_faults.Memory over = tt
over_or_memory program asked draw_faults.Behaviours over = over refl

module _ (program compiled : Program) (asked : AskedRuns) (same : compiled ≡ program) where
  -- of the draw that counts the steps of a way
  pub refused_way : (fault : DrawFault) → AnswersWay compiled asked.draws.workers asked.draws.depth (Err fault) → IsOfDrawing program asked (of_draw fault)
  refused_way fault out =
      over_or_memory program asked fault (λ is. counting (subst (λ (f : DrawFault). AnswersWay program asked.draws.workers asked.draws.depth (Err f)) is
      (subst (λ (p : Program). AnswersWay p asked.draws.workers asked.draws.depth (Err fault)) same out)))

  module _ (way : Way) (draws : Asked) (draws_are : draws ≡ drawn_in asked.draws way) (is_way : IsWay compiled asked.draws.workers asked.draws.depth way) where
    way_is : IsWay program asked.draws.workers asked.draws.depth way
    way_is = subst (λ (p : Program). IsWay p asked.draws.workers asked.draws.depth way) same is_way

    -- of those that are asked for
    pub refused_numbers : (fault : DrawFault) → HasNoRoomIn compiled draws fault → IsOfDrawing program asked (of_draw fault)
    refused_numbers fault out =
        over_or_memory program asked fault (λ is. drawing way way_is (subst (HasNoRoomIn program (drawn_in asked.draws way)) is
        (subst (λ (d : Asked). HasNoRoomIn program d fault) draws_are (subst (λ (p : Program). HasNoRoomIn p draws fault) same out))))

    -- the runs, and their numbers
    pub are_drawn : (side : DrawnSide) → side.asked ≡ draws → AreNumbersOfRuns compiled draws (judged_by asked) draws.runs side.numbers.items
        → AreDrawn program asked side
    are_drawn side asked_are numbers = record {
      way = way;
      is_way = way_is;
      asked_are = asked_are ∙ draws_are;
      numbers = subst (λ (d : Asked). AreNumbersOfRuns program d (judged_by asked) d.runs side.numbers.items) draws_are
          (subst (λ (p : Program). AreNumbersOfRuns p draws (judged_by asked) draws.runs side.numbers.items) same numbers);
    }

-- a fault of the runs of the program that a text spells
of_drawing : (asked : AskedRuns) (text : Text) (program : Program) (fault : Fault) → Spells text program → IsOfDrawing program asked fault
    → IsOfDrawn asked text fault
of_drawing asked text program (faults.Run runs.Behaviours) spells over = record { program = program; spells = spells; over = over }
of_drawing asked text program (faults.Means wants.Memory) spells over = tt
of_drawing asked text program _ spells over = absurd over

-- the runs of the program that a text spells
pub of_text : (asked : AskedRuns) (text : Text) (program : Program) (result : Result DrawnSide Fault) → Spells text program
    → MatchResult result (AreDrawn program asked) (IsOfDrawing program asked)
    → MatchResult result (λ side. IsDrawnSide asked text side × (length text ≤ MOST_TEXT)) (IsOfDrawn asked text)
of_text asked text program (Ok side) spells drawn = (record { program = program; spells = spells; drawn = drawn }, spells.short)
of_text asked text program (Err fault) spells is = of_drawing asked text program fault spells is

-- ---- both sides

-- what is told of the runs of both
pub compared : (asked : AskedRuns) (before after : DrawnSide) (was now : List Numbers) (told : RunsCompared) (text : Text) → was ≡ before.numbers.items
    → now ≡ after.numbers.items → told.asked ≡ before.asked → told.plan_workers ≡ asked.workers → AreNumbersTold was told.before
    → AreNumbersTold now told.after → told.less ≡ less_count was now → told.same ≡ same_count was now → IsRunsText told text
    → AreRunsCompared asked before after text
compared asked before after was now told text was_are now_are asked_are workers_are before_are after_are less_is same_is is = record {
  told = told;
  are = record {
    asked_are = asked_are;
    workers_are = workers_are;
    before_are = subst (λ (ns : List Numbers). AreNumbersTold ns told.before) was_are before_are;
    after_are = subst (λ (ns : List Numbers). AreNumbersTold ns told.after) now_are after_are;
    less_is = less_is ∙ (λ i. less_count (was_are i) (now_are i));
    same_is = same_is ∙ (λ i. same_count (was_are i) (now_are i));
  };
  text_is = is;
}

-- a fault of the first side
pub of_first : (asked : AskedRuns) (after_text input : Text) (fault : Fault) → IsOfDrawn asked input fault
    → IsOfCompareRuns asked after_text input Before fault
of_first asked after_text input (faults.Means wants.Memory) is = tt
of_first asked after_text input (faults.Means wants.Source) is = is
of_first asked after_text input (faults.Means (wants.Sink gone)) is = is
of_first asked after_text input (faults.Words w) is = is
of_first asked after_text input (faults.Input i) is = is
of_first asked after_text input (faults.Run r) is = is
of_first asked after_text input faults.Unscheduled is = is
of_first asked after_text input (faults.Window c) is = is
of_first asked after_text input (faults.End c) is = is

-- a fault of the second side
pub of_second : (asked : AskedRuns) (after_text input : Text) (fault : Fault) (before : DrawnSide) → IsDrawnSide asked input before
    → IsOfDrawn asked after_text fault → IsOfCompareRuns asked after_text input After fault
of_second asked after_text input (faults.Means wants.Memory) before drawn is = tt
of_second asked after_text input (faults.Means wants.Source) before drawn is = record { before = before; before_is = drawn; refused = is }
of_second asked after_text input (faults.Means (wants.Sink gone)) before drawn is = record { before = before; before_is = drawn; refused = is }
of_second asked after_text input (faults.Words w) before drawn is = record { before = before; before_is = drawn; refused = is }
of_second asked after_text input (faults.Input i) before drawn is = record { before = before; before_is = drawn; refused = is }
of_second asked after_text input (faults.Run r) before drawn is = record { before = before; before_is = drawn; refused = is }
of_second asked after_text input faults.Unscheduled before drawn is = record { before = before; before_is = drawn; refused = is }
of_second asked after_text input (faults.Window c) before drawn is = record { before = before; before_is = drawn; refused = is }
of_second asked after_text input (faults.End c) before drawn is = record { before = before; before_is = drawn; refused = is }

-- a text is refused, the first for what was taken of it
pub refused_either : (asked : AskedRuns) (after_text : Text) (which : Which) (result : Result (Unit {0}) Fault) (fault : Fault) (text : Text)
    (before after : Option Text) → IsErrAnd result (λ f. f ≡ fault) → ReadsWhole before after text (MOST_TEXT + 1)
    → IsOfCompareRuns asked after_text text which fault → RefusesCompareRuns asked after_text which result before after
refused_either asked after_text which (Ok done) fault text before after h reads is = absurd h
refused_either asked after_text which (Err f) fault text before after h reads is =
    subst (λ (x : Fault). RefusesCompareRuns {A = Unit {0}} asked after_text which (Err x) before after) (sym h) (go fault is)
  where
    go : (x : Fault) → IsOfCompareRuns asked after_text text which x
        → RefusesCompareRuns {A = Unit {0}} asked after_text which (Err x) before after
    go (faults.Means w) is = tt
    go (faults.Words w) is = record { input = text; taken = reads; known = is }
    go (faults.Input i) is = record { input = text; taken = reads; known = is }
    go (faults.Run r) is = record { input = text; taken = reads; known = is }
    go faults.Unscheduled is = record { input = text; taken = reads; known = is }
    go (faults.Window c) is = record { input = text; taken = reads; known = is }
    go (faults.End c) is = record { input = text; taken = reads; known = is }
