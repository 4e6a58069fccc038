-- The rows of one run have one end where ticks are time.
use Rattle.std.proofs.Common.{◌≡◌, ◌∙◌, ℕ, List, Option, Some, None, inl, inr, ap, sym, subst}
use Rattle.std.specs.Prelude.{option_map}
use Rattle.boc_program.specs.declared.program.Program.{Program}
use Rattle.boc_reader.proofs.Spellings.{one_program}
use Rattle.boc_runs.specs.declared.rows.Row.{Row}
use Rattle.boc_plans.specs.Plans.{IsEnd}
use Rattle.boc_plans.specs.Seen.{writing_all}
use Rattle.boc_order.proofs.Alone.{one_end}
use Rattle.boc_busy.specs.declared.timed.TimedRows.{TimedRows}
use Rattle.boc_timed.proofs.OneTimetable.{one_timetable}
use Rattle.boc_words.specs.declared.asked.RunFile.{RunFile}
use Rattle.boc_words.specs.declared.asked.RunFile.TheVariants as run_files
use Rattle.boc_words.specs.declared.schedule.Schedule.{Schedule}
use Rattle.boc_words.specs.declared.schedule.Schedule.TheVariants.{Threads, Drawn as Draws, Timed as Times}
use Rattle.boc_run_commands.specs.NamedRuns.{HasOwnTimes, HasTimes}
use Rattle.boc_run_commands.specs.Schedules.{AreTimes, AreTimesBy, AreTimesText}
use Rattle.boc_run_commands.specs.TimedAnswers.{end_of_times}
use Rattle.boc_run_commands.proofs.OneProgram.{same_program}

-- the ends that are told of two
abbrev EndAlike : Option TimedRows → Option TimedRows → Type 0
EndAlike a b = option_map end_of_times a ≡ option_map end_of_times b

unknown : (a b : Option TimedRows) → a ≡ None → b ≡ None → EndAlike a b
unknown a b x y = ap (option_map end_of_times) (x ∙ sym y)

-- the times of the timed run by so many workers
ends_by : (program : Program) (workers : ℕ) (rows : List Row) (a b : TimedRows) → AreTimesBy program workers rows a → AreTimesBy program workers rows b
    → end_of_times a ≡ end_of_times b
ends_by program workers rows a b x y =
    let starts = (one_timetable program workers x.run y.run x.is y.is).0 in
    let many : a.p ≡ b.p = x.times_are.p_is ∙ sym y.times_are.p_is in
    let last : a.ends_at ≡ b.ends_at =
    one_end (writing_all rows) y.run.timetable.starts.items a.ends_at b.ends_at
    (subst (λ (plan : List ℕ). IsEnd (writing_all rows) plan a.ends_at) starts x.times_are.last_is) y.times_are.last_is in
    let same : end_of_times a ≡ end_of_times b = λ i. record { workers = many i; tick = last i } in
    same

-- those of a run by a schedule
ends_of : (program : Program) (schedule : Schedule) (rows : List Row) (a b : Option TimedRows) → AreTimes program schedule rows a
    → AreTimes program schedule rows b → EndAlike a b
ends_of program (Threads runners) rows a b x y = unknown a b x y
ends_of program (Draws workers seed depth) rows a b x y = unknown a b x y
ends_of program (Times workers) rows None b x y = absurd x
ends_of program (Times workers) rows (Some a) None x y = absurd y
ends_of program (Times workers) rows (Some a) (Some b) x y = ap Some (ends_by program workers rows a b x y)

-- of the program that a text spells
ends_of_text : (text : List ℕ) (schedule : Schedule) (rows : List Row) (a b : Option TimedRows) → AreTimesText text schedule rows a
    → AreTimesText text schedule rows b → EndAlike a b
ends_of_text text schedule rows a b x y =
    let program : x.program ≡ y.program = same_program x.program y.program (one_program text x.program y.program x.spells y.spells) in
    ends_of y.program schedule rows a b (subst (λ (p : Program). AreTimes p schedule rows a) program x.times_are) y.times_are

own_ends : (schedule : Schedule) (text : List ℕ) (rows : List Row) (a b : Option TimedRows) → HasOwnTimes schedule text rows a
    → HasOwnTimes schedule text rows b → EndAlike a b
own_ends schedule text rows a b (inl x) (inl y) = unknown a b x.1 y.1
own_ends schedule text rows a b (inl x) (inr y) = absurd (y.0 x.0)
own_ends schedule text rows a b (inr x) (inl y) = absurd (x.0 y.0)
own_ends schedule text rows a b (inr x) (inr y) = ends_of_text text schedule rows a b x.1 y.1

-- and of an input with the file beside it
pub one_ends : (schedule : Schedule) (file : Option RunFile) (text : List ℕ) (rows : List Row) (a b : Option TimedRows) → HasTimes schedule file text rows a
    → HasTimes schedule file text rows b → option_map end_of_times a ≡ option_map end_of_times b
one_ends schedule None text rows a b x y = own_ends schedule text rows a b x y
one_ends schedule (Some (run_files.Record path)) text rows a b x y = unknown a b x y
one_ends schedule (Some (run_files.Names path)) text rows a b x y = own_ends schedule text rows a b x y
