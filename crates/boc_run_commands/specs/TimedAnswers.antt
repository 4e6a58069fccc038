-- What is told of a timed run beside what is told of any run.
use Rattle.std.specs.Prelude.{Bool, List, [], ℕ, Option, Some, None}
use Rattle.boc_busy.specs.declared.timed.TimedRows.{TimedRows}
use Rattle.boc_report.specs.Parts.{timed_part}
use Rattle.boc_why_report.specs.declared.told.TimedEnd.{TimedEnd}

-- the part of a report behind all others: when rows ran, where that is known; and else nothing
abbrev pub times_text : Bool → Option TimedRows → List ℕ
times_text unplanned None = []
times_text unplanned (Some times) = timed_part unplanned times

-- when a run was over, by so many workers
abbrev pub end_of_times : TimedRows → TimedEnd
end_of_times times = record { workers = times.p; tick = times.ends_at }
