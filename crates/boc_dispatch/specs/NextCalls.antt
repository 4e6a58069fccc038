-- At how many of its ticks a row makes its next call: it enqueues its next wish, or ends.
use Rattle.std.specs.Prelude.{◌≡◌, ℕ, Option, Some, None, slice_get}
use Rattle.boc_program.specs.declared.program.Program.{Program}
use Rattle.boc_program.specs.Meaning.{Wish, Meaning}
use Rattle.boc_runs.specs.Lives.{Running}
use Rattle.boc_runs.specs.Run.{Member, meaning_of}
use Rattle.boc_runs.specs.machine.Steps.{State, HasNoEnqueue, members}
use Rattle.boc_dispatch.specs.declared.worker.Hand.{Hand}
use Rattle.boc_dispatch.specs.Working.{IsToThink}

-- at how many ticks a body makes its next call, where so many of its wishes were spawned: at the offset of its next wish, or at its end
abbrev pub call_at : Meaning → Option Wish → ℕ
call_at means (Some wish) = wish.offset
call_at means None = means.ticks

-- A call of a row begins: it runs and has no open enqueue, and its next wish, or its end, is at so many of its ticks.
pub record CallsAt (p : Program) (s : State) (row ticks : ℕ) : Type 0 where
  pub none_open : HasNoEnqueue s row
  pub member : Member
  pub is : slice_get (members p s) row ≡ Some member
  pub runs : member.life ≡ Running
  pub means : Meaning
  pub meant : meaning_of p member ≡ Some means
  pub ticks_are : ticks ≡ call_at means (slice_get means.wishes member.spawned)

-- where a call of the row begins, its ticks are reported; and else nothing
abbrev pub TellsCall : Program → State → ℕ → Option ℕ → Type 0
TellsCall p s row (Some ticks) = CallsAt p s row ticks
TellsCall p s row None = (ticks : ℕ) → CallsAt p s row ticks → ⊥

-- the same of the row that a worker serves; where it serves none, nothing is reported
abbrev pub TellsCallOf : Program → State → Option ℕ → Option ℕ → Type 0
TellsCallOf p s None call = call ≡ None
TellsCallOf p s (Some row) call = TellsCall p s row call

-- there is nothing that a worker is to think first
abbrev pub HasNoThought : Hand → Type 0
HasNoThought h = IsToThink h → ⊥
