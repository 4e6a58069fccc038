-- What is noted where the run that is told of is that of one worker: that a run by more workers, in which ticks are time, has another span.
use Rattle.std.specs.Prelude.{◌≡◌, ◌==◌, ◌⊎◌, ◌++◌, ℕ, min, cond, List, [], Option, Some, None, Ok, Err, codes, decimal}
use Rattle.boc_program.specs.declared.limits.TheConstants.{MOST_RUNNERS}
use Rattle.boc_program.specs.declared.program.Program.{Program}
use Rattle.boc_reader.specs.Spells.{Spells}
use Rattle.boc_runs.specs.declared.rows.Row.{Row}
use Rattle.boc_plans.specs.declared.sharing.Sharing.{Sharing}
use Rattle.boc_plans.specs.Greedy.{IsSpan}
use Rattle.boc_plans.specs.Seen.{seen}
use Rattle.boc_timed.specs.declared.fault.TimedFault.TheVariants as timed_faults
use Rattle.boc_timed.specs.declared.timing.TimedRun.{TimedRun}
use Rattle.boc_timed.specs.Timed.{IsTimed}
use Rattle.boc_words.specs.declared.asked.RunFile.{RunFile}
use Rattle.boc_words.specs.declared.asked.RunFile.TheVariants as run_files
use Rattle.boc_words.specs.declared.schedule.Schedule.{Schedule}
use Rattle.boc_words.specs.declared.schedule.Schedule.TheVariants.{Threads}
use Rattle.boc_run_commands.specs.declared.timed_note.Other.{Other}
use Rattle.boc_run_commands.specs.NamedRuns.{BeginsRecord}

-- the workers of the timed run with which a run by so many threads is compared, where plans are for p: p workers, or the most that there may be; and none
-- where there are more threads than one
abbrev pub compared_for : ℕ → ℕ → Option ℕ
compared_for threads p = cond (threads == 1) (Some (min p MOST_RUNNERS)) None

-- the same of what was asked for: only where a program is run by threads, with no record of its run beside it, and where plans are for some workers
abbrev pub workers_compared : Schedule → Option ℕ → Option RunFile → Option ℕ
workers_compared (Threads runners) (Some p) None = compared_for runners p
workers_compared (Threads runners) (Some p) (Some (run_files.Names path)) = compared_for runners p
workers_compared schedule workers file = None

-- the note: the span of the timed run by so many workers
abbrev pub timed_note : ℕ → ℕ → List ℕ
timed_note workers span = codes "boc: note: timed on " ++ decimal workers ++ codes " workers the span is " ++ decimal span ++ codes ": see --timed\n"

-- the note where the one run has this span, and the timed run by so many workers that one, if there is such a run; no text where the spans are the same
abbrev pub note_beside : ℕ → ℕ → Option ℕ → List ℕ
note_beside workers span None = []
note_beside workers span (Some timed) = cond (timed == span) [] (timed_note workers timed)

-- The text spells a program whose timed run by so many workers has this span, as its rows share cowns in this way.
pub record HasTimedSpan (text : List ℕ) (workers : ℕ) (sharing : Sharing) (span : ℕ) : Type 0 where
  pub program : Program
  pub spells : Spells text program
  pub run : TimedRun
  pub is : IsTimed program workers (Ok run)
  pub span_is : IsSpan (seen sharing run.record.rows) span

-- that span; there is none where the text spells no program, or one whose timed run has no room for a behaviour
abbrev pub IsTimedSpan : List ℕ → ℕ → Sharing → Option ℕ → Type 0
IsTimedSpan text workers sharing (Some span) = HasTimedSpan text workers sharing span
IsTimedSpan text workers sharing None = (p : Program) → Spells text p → IsTimed p workers (Err timed_faults.Behaviours)

-- the note on these rows of a run of the program that a text spells, beside the timed run by so many workers
pub record IsTimedNote (text : List ℕ) (workers : ℕ) (sharing : Sharing) (rows : List Row) (note : List ℕ) : Type 0 where
  pub span : ℕ
  pub span_is : IsSpan (seen sharing rows) span
  pub timed : Option ℕ
  pub timed_is : IsTimedSpan text workers sharing timed
  pub note_is : note ≡ note_beside workers span timed

-- that note, where the run is compared with such a run; and else no text
abbrev pub IsNoteFor : List ℕ → Option ℕ → Sharing → List Row → List ℕ → Type 0
IsNoteFor text None sharing rows note = note ≡ []
IsNoteFor text (Some workers) sharing rows note = (BeginsRecord text × (note ≡ [])) ⊎ ((BeginsRecord text → ⊥) × IsTimedNote text workers sharing rows note)

-- the run by so many workers of the program that a text spells is compared with another; or, where none is, nothing is to be compared
abbrev pub IsOther : List ℕ → Option ℕ → Option Other → Type 0
IsOther text workers None = (workers ≡ None) ⊎ BeginsRecord text
IsOther text workers (Some other) = (workers ≡ Some other.workers) × (BeginsRecord text → ⊥) × (other.text.items ≡ text)
