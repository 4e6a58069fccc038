-- The parts of a report on workers: the greedy plan, and the timed run.
use Rattle.std.specs.Prelude.{◌≡◌, ℕ, Bool, List, [], length, Option, Some, None}
use Rattle.boc_greedy.specs.declared.plan.Greedy.{Greedy}
use Rattle.boc_busy.specs.declared.timed.TimedRows.{TimedRows}
use Rattle.boc_report.specs.Texts.{greedy_text, timed_text}

-- a greedy plan has an end and a worker for each of its starts
pub record IsWhole (greedy : Greedy) : Type 0 where
  pub ends : length greedy.starts.items ≡ length greedy.ends.items
  pub workers : length greedy.starts.items ≡ length greedy.workers.items

-- the part that a greedy plan adds to a report, without its rows or with them; without a greedy plan there is none
abbrev pub part_of : Bool → Option Greedy → List ℕ
part_of unplanned None = []
part_of unplanned (Some g) = greedy_text unplanned g.p g.starts.items g.ends.items g.workers.items g.ends_at g.bound

-- a timed run has an end and a worker for each of its starts
pub record AreWhole (timed : TimedRows) : Type 0 where
  pub ends : length timed.starts.items ≡ length timed.ends.items
  pub workers : length timed.starts.items ≡ length timed.workers.items

-- the part of a report on a timed run, without its rows or with them
abbrev pub timed_part : Bool → TimedRows → List ℕ
timed_part unplanned t = timed_text unplanned t.p t.starts.items t.ends.items t.workers.items t.ends_at t.bound
