-- What a turn counts, and which faults are noted.
use Rattle.std.specs.Prelude.{ℕ, Option, Some, None}
use Rattle.boc_program.specs.declared.program.Program.{Program}
use Rattle.boc_runs.specs.machine.Schedules.{Reaches}
use Rattle.boc_runs.specs.machine.Steps.{State, opening_state}
use Rattle.boc_dispatch.specs.declared.calls.OpenFault.TheVariants as open_faults
use Rattle.boc_dispatch.specs.declared.worker.Refusal.{Refusal}
use Rattle.boc_dispatch.specs.declared.worker.Refusal.TheVariants as refusals
use Rattle.boc_dispatch.specs.declared.worker.Turn.{Turn}
use Rattle.boc_dispatch.specs.declared.worker.Turn.TheVariants as turns
use Rattle.boc_dispatch.specs.Underway.{Underway}
use Rattle.boc_dispatch.specs.Calls.{HasNoRoom}
use Rattle.boc_dispatch.specs.Driving.{of_program}
use Rattle.boc_workers.specs.declared.fault.RunFault.{RunFault}
use Rattle.boc_workers.specs.declared.fault.RunFault.TheVariants as faults

-- how many steps a turn makes: one where it moved, else none
abbrev pub steps_made : Turn → ℕ
steps_made (turns.Moved step) = 1
steps_made _ = 0

-- the fault of a refusal: the limit on behaviours, want of memory, or a stranger
abbrev pub fault_of : Refusal → RunFault
fault_of (refusals.Open open_faults.Behaviours) = faults.Behaviours
fault_of (refusals.Open open_faults.Memory) = faults.Memory
fault_of _ = faults.Stranger

-- the fault that is noted after a turn where none was: that of a refusal
abbrev pub noted_after : Turn → Option RunFault
noted_after (turns.Refused refusal) = Some (fault_of refusal)
noted_after _ = None

-- the fault that is noted where there is none yet, beside this one
abbrev pub some_or : Option RunFault → RunFault → Option RunFault
some_or None other = Some other
some_or (Some fault) other = Some fault

-- the faults that a worker or its crew may note: memory, a thread that could not be started, and, of a gate that is not
-- always on, that it stopped a worker
abbrev pub MayNote : Type 0 → RunFault → Type 0
MayNote always_on faults.Memory = Unit {0}
MayNote always_on faults.NoThread = Unit {0}
MayNote always_on faults.Held = always_on → ⊥
MayNote always_on _ = ⊥

-- some row's next wish is due, and there is no space for it
abbrev pub IsAtLimit : Underway → Type 0
IsAtLimit u = ∥ ((row : ℕ) × HasNoRoom u (Some row)) ∥₁

-- some steps lead from the opening state of the dispatcher's program to where it stands
abbrev pub IsReached : Underway → Type 0
IsReached u = ∥ Reaches u.program (opening_state u.program) u.state ∥₁

-- some steps lead from the opening state of the program to one in which some row's next wish is due, and there is no space for it
pub record CanReachLimit (p : Program) : Type 0 where
  pub state : State
  pub reached : ∥ Reaches p (opening_state p) state ∥₁
  pub full : IsAtLimit (of_program p state)
