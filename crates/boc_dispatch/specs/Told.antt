-- What a run tells of its rows.
use Rattle.std.specs.Prelude.{◌≡◌, ◌≢◌, ◌<◌, ℕ, List, [], ◌∷◌, ◌++◌, Option, Some, None, Ok, length, slice_get}
use Rattle.boc_program.specs.declared.body.EndStatus.TheVariants.{Done}
use Rattle.boc_runs.specs.machine.Steps.{members}
use Rattle.boc_eval.specs.Frames.{Ran}
use Rattle.boc_eval.specs.Instances.{IsTrueOf}
use Rattle.boc_dispatch.specs.declared.calls.Tell.{Tell}
use Rattle.boc_dispatch.specs.declared.calls.Tell.TheVariants as tells
use Rattle.boc_eval.specs.declared.instance.ToldRow.{ToldRow}
use Rattle.boc_dispatch.specs.declared.worker.Hand.{Hand}
use Rattle.boc_dispatch.specs.declared.worker.Hand.TheVariants as hands
use Rattle.boc_dispatch.specs.Underway.{Underway}
use Rattle.boc_dispatch.specs.Calls.{IsHandedOut}
use Rattle.boc_dispatch.specs.Working.{HasThought}

-- what is reported of a running row whose body gave this; and nothing where no such row runs
abbrev pub TellsRow : Underway → ℕ → Ran → Option ToldRow → Type 0
TellsRow u row o None = IsHandedOut u row o.body o.args o.inputs → ⊥
TellsRow u row o (Some t) = (t.row ≡ row) × IsTrueOf (members u.program u.state) t

-- it has to be reported what a row is whose body gave this
abbrev pub IsTold : Tell → Ran → Type 0
IsTold tells.Nothing o = ⊥
IsTold tells.Faulted o = o.status ≢ Done
IsTold tells.All o = Unit {0}

-- what is reported of a row whose body gave this: nothing where that hasn't to be reported
pub record TellsEnd (tell : Tell) (u : Underway) (row : ℕ) (o : Ran) (told : Option ToldRow) : Type 0 where
  pub due : IsTold tell o → TellsRow u row o told
  pub other : (IsTold tell o → ⊥) → told ≡ None

-- a worker has in hand the end of a row of which it has to be reported what it is
abbrev pub TellsOf : Tell → Hand → Type 0
TellsOf tell (hands.Done row o) = IsTold tell o
TellsOf tell _ = ⊥

-- what is reported of the row whose end a worker has in hand; and nothing at other times
abbrev pub TellsEnding : Tell → Underway → Hand → Option ToldRow → Type 0
TellsEnding tell u (hands.Done row o) told = TellsEnd tell u row o told
TellsEnding tell u _ told = told ≡ None

-- what is reported, and one row more, if there is one
abbrev pub with_told : List ToldRow → Option ToldRow → List ToldRow
with_told told None = told
with_told told (Some row) = told ++ row ∷ []

-- the row whose end a worker has in hand is reported after others, if it has to be
abbrev pub HasTold : Tell → Underway → Hand → List ToldRow → List ToldRow → Type 0
HasTold tell u h told after = (ending : Option ToldRow) × TellsEnding tell u h ending × (after ≡ with_told told ending)

-- a worker thinks, and then the row whose end it has in hand is reported after others, if it has to be
abbrev pub TellsThinking : Tell → Underway → Hand → List ToldRow → List ToldRow → Type 0
TellsThinking tell u h told after = (thought : Hand) × HasThought h (Ok tt) thought × HasTold tell u thought told after

-- ---- rows by their numbers

-- a row is reported at a place; or it isn't among the first so many that are reported, and the place is after all
pub record IsPlaced (told : List ToldRow) (count row place : ℕ) : Type 0 where
  pub there : (t : ToldRow) → slice_get told place ≡ Some t → t.row ≡ row
  pub missing : slice_get told place ≡ None → (k : ℕ) (t : ToldRow) → k < count → slice_get told k ≡ Some t → t.row ≢ row

-- so many rows are placed so, by the first so many that are reported
pub record ArePlaced (told : List ToldRow) (count rows : ℕ) (places : List ℕ) : Type 0 where
  pub all : length places ≡ rows
  pub each : (row place : ℕ) → slice_get places row ≡ Some place → IsPlaced told count row place

-- some row below a number isn't told
pub record LacksRow (told : List ToldRow) (count : ℕ) : Type 0 where
  pub row : ℕ
  pub below : row < count
  pub untold : (k : ℕ) (t : ToldRow) → slice_get told k ≡ Some t → t.row ≢ row
