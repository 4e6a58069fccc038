-- Runs that have no room for a behaviour.
use Rattle.std.proofs.Common.{ℕ, ◌≤◌, List, arith, inl, inr, Err}
use Rattle.boc_program.specs.declared.program.Program.{Program}
use Rattle.boc_draws.specs.declared.fault.DrawFault.{DrawFault}
use Rattle.boc_draws.specs.declared.fault.DrawFault.TheVariants as faults
use Rattle.boc_draws.specs.declared.way.Way.TheVariants.{Uniform}
use Rattle.boc_draws.specs.Draws.{IsDraw}
use Rattle.boc_remedies.specs.declared.remedy.Remedy.{Remedy}
use Rattle.boc_outcomes.specs.declared.asked.Asked.{Asked}
use Rattle.boc_many_runs.specs.Many.{AnswersMany}
use Rattle.boc_many_runs.specs.Passes.{HasNoRoomIn}
use Rattle.boc_many_runs.specs.Runs.{AreBrought, AreNumbersDrawn, IsRound, IsSeen, Manner}

module _ (p : Program) (asked : Asked) (m : Manner) where
  pub single_full : (fault : DrawFault) → IsDraw p 1 Uniform 0 (Err fault) → AnswersMany p asked m (Err fault)
  single_full faults.Behaviours is = inr is
  single_full faults.Memory is = tt

  pub run_full : (fault : DrawFault) → HasNoRoomIn p asked fault → AnswersMany p asked m (Err fault)
  run_full faults.Behaviours is = inl is
  run_full faults.Memory is = tt

  pub seen_full : (from to : ℕ) (fault : DrawFault) → IsRound (IsSeen p asked m) from to (Err fault) → to ≤ asked.runs → HasNoRoomIn p asked fault
  seen_full from to faults.Behaviours (number, low, ends) few = (number, omega (arith, low, few), ends)
  seen_full from to faults.Memory is few = tt

  pub numbers_full : (from to : ℕ) (fault : DrawFault) → IsRound (AreNumbersDrawn p asked m) from to (Err fault) → to ≤ asked.runs
      → HasNoRoomIn p asked fault
  numbers_full from to faults.Behaviours (number, low, ends) few = (number, omega (arith, low, few), ends)
  numbers_full from to faults.Memory is few = tt

  pub brought_full : (remedies : List Remedy) (from to : ℕ) (fault : DrawFault) → IsRound (AreBrought p asked m remedies) from to (Err fault)
      → to ≤ asked.runs → HasNoRoomIn p asked fault
  brought_full remedies from to faults.Behaviours (number, low, ends) few = (number, omega (arith, low, few), ends)
  brought_full remedies from to faults.Memory is few = tt
