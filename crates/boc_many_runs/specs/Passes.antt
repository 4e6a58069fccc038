-- Passes over all runs.
use Rattle.std.specs.Prelude.{◌≡◌, ℕ, ◌<◌, List, map}
use Rattle.boc_program.specs.declared.program.Program.{Program}
use Rattle.boc_draws.specs.declared.fault.DrawFault.{DrawFault}
use Rattle.boc_draws.specs.declared.fault.DrawFault.TheVariants as faults
use Rattle.boc_outcomes.specs.declared.asked.Asked.{Asked}
use Rattle.boc_outcomes.specs.Samples.{EndsBy}
use Rattle.boc_many_runs.specs.declared.counted.Counted.{Counted}
use Rattle.boc_many_runs.specs.declared.seen.Numbers.{Numbers}
use Rattle.boc_many_runs.specs.Runs.{AreFound, Found, Manner}
use Rattle.boc_many_runs.specs.Union.{counts}

-- what is found in so many runs: the numbers of each, and how many of them try each remedy
pub record HasFound (p : Program) (asked : Asked) (m : Manner) (count : ℕ) (numbers : List Numbers) (counted : List Counted) : Type 0 where
  pub all : List Found
  pub are : AreFound p asked m count all
  pub numbers_are : numbers ≡ map (λ f. f.numbers) all
  pub counted_are : counted ≡ counts all

-- one of the runs that are asked for had no room for a behaviour; unless memory was refused
abbrev pub HasNoRoomIn : Program → Asked → DrawFault → Type 0
HasNoRoomIn p asked faults.Behaviours = (number : ℕ) × (number < asked.runs) × EndsBy p asked number faults.Behaviours
HasNoRoomIn p asked faults.Memory = Unit {0}
