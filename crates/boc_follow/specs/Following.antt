-- A run of a program that is followed, and what is kept of it.
use Rattle.std.specs.Prelude.{◌≡◌, ℕ, List, map, ℤ}
use Rattle.boc_runs.specs.declared.event.Event.{Event}
use Rattle.boc_program.specs.declared.program.Program.{Program}
use Rattle.boc_program.specs.Programs.{cown_count}
use Rattle.boc_runs.specs.Run.{config_of, IsRun}
use Rattle.boc_follow.specs.declared.row.FollowedRow.{FollowedRow}
use Rattle.boc_follow.specs.Standings.{standing_in, standing_of}

-- a program, and the events so far of a run of it
pub record Following : Type 0 where
  pub program : Program
  pub log : List Event

-- The log, over so many cowns, is a run of the program, and the rows and the values are those of where it stands.
pub record IsFollowing (p : Program) (cowns : ℕ) (log : List Event) (rows : List FollowedRow) (values : List ℤ) : Type 0 where
  pub run : IsRun p log
  pub cowns_are : cowns ≡ cown_count p.cowns
  pub rows_are : map standing_in rows ≡ map (standing_of p) (config_of p log).members
  pub values_are : values ≡ (config_of p log).values
