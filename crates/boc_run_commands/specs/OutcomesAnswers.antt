-- What the command `outcomes` answers, and what it refuses.
use Rattle.std.specs.Prelude.{◌≡◌, ℕ, List, Option, Result, Ok, Err}
use Rattle.boc_program.specs.declared.program.Program.{Program}
use Rattle.boc_reader.specs.Spells.{Spells}
use Rattle.boc_draws.specs.declared.fault.DrawFault.TheVariants as draws_by
use Rattle.boc_draws.specs.declared.way.Way.{Way}
use Rattle.boc_draws.specs.Ways.{AnswersWay, IsWay}
use Rattle.boc_outcomes.specs.declared.asked.Asked.{Asked}
use Rattle.boc_outcomes.specs.declared.tally.Outcomes.{Outcomes}
use Rattle.boc_outcomes.specs.Tallies.{AnswersAsked}
use Rattle.boc_ends_report.specs.OutcomeTexts.{outcomes_text}
use Rattle.boc_words.specs.declared.asked.AskedDraws.{AskedDraws}
use Rattle.boc_workers.specs.declared.fault.RunFault.TheVariants as runs
use Rattle.boc_run_commands.specs.declared.fault.Fault.{Fault}
use Rattle.boc_run_commands.specs.declared.fault.Fault.TheVariants as faults
use Rattle.boc_run_commands.specs.declared.fault.InputFault.TheVariants as inputs
use Rattle.boc_run_commands.specs.declared.fault.Want.TheVariants as wants
use Rattle.boc_run_commands.specs.Commands.{IsWrongWith, TakesText}
use Rattle.boc_run_commands.specs.Faults.{IsWant}

-- the draws that the words ask for, in this way
abbrev pub drawn_in : AskedDraws → Way → Asked
drawn_in draws way = record { runs = draws.runs; seed = draws.seed; workers = draws.workers; way = way }

-- The input spells a program, and the output tells the ends that the runs of it come to which are drawn by so many workers, in the way of this depth,
-- by as many seeds from the first one on.
pub record IsOutcomesAnswer (draws : AskedDraws) (input output : List ℕ) : Type 0 where
  pub program : Program
  pub spells : Spells input program
  pub way : Way
  pub is_way : IsWay program draws.workers draws.depth way
  pub outcomes : Outcomes
  pub ends : AnswersAsked program (drawn_in draws way) (Ok outcomes)
  pub text : output ≡ outcomes_text program.cowns draws.runs outcomes

-- one of the draws that are asked for has no room for a behaviour, or the one has none by which the steps of a depth are counted
pub data HasNoRoomIn (program : Program) (draws : AskedDraws) : Type 0 where
  counting : AnswersWay program draws.workers draws.depth (Err draws_by.Behaviours) → HasNoRoomIn program draws
  drawing : (way : Way) → IsWay program draws.workers draws.depth way → AnswersAsked program (drawn_in draws way) (Err draws_by.Behaviours)
      → HasNoRoomIn program draws

-- the text spells a program of which that holds
pub record DrawsOver (draws : AskedDraws) (text : List ℕ) : Type 0 where
  pub program : Program
  pub spells : Spells text program
  pub over : HasNoRoomIn program draws

-- a fault of draws: what is wrong with the program text and where, or that a draw of its program had no room for a behaviour; no device failed
abbrev pub IsOfDraws : AskedDraws → List ℕ → Fault → Type 0
IsOfDraws draws text (faults.Input (inputs.Program r)) = IsWrongWith text r
IsOfDraws draws text (faults.Run runs.Behaviours) = DrawsOver draws text
IsOfDraws draws text (faults.Means wants.Memory) = Unit {0}
IsOfDraws draws text _ = ⊥

-- draws are refused for what was taken of the source: a wrong text, or one of whose program a draw had no room for a behaviour
abbrev pub RefusesDraws : {A : Type 0} → AskedDraws → Result A Fault → Option (List ℕ) → Option (List ℕ) → Type 0
RefusesDraws draws (Ok done) before after = Unit {0}
RefusesDraws draws (Err (faults.Input (inputs.Program r))) before after = TakesText (λ text. IsWrongWith text r) before after
RefusesDraws draws (Err (faults.Run runs.Behaviours)) before after = TakesText (DrawsOver draws) before after
RefusesDraws draws (Err fault) before after = IsWant fault
