-- The open behaviours of the dispatcher: how far each is, and what that says of its requests.
use Rattle.std.specs.Prelude.{ℕ, suc, Bool, true, false, List, [], take, drop, Option, Some, None}
use Rattle.boc_runs.specs.declared.stage.Phase.TheVariants as phases
use Rattle.boc_runs.specs.declared.stage.Stage.{Stage}
use Rattle.boc_runs.specs.declared.stage.Stage.TheVariants.{Asking, Recorded}
use Rattle.boc_runs.specs.Lives.{Life, Pending, Running, Ended}

-- a behaviour from its opening to its last release: the row that spawns it, at how many ticks, its cowns in rising
-- order, and how far it is
pub record OpenBehaviour : Type 0 where
  pub parent : ℕ
  pub offset : ℕ
  pub cowns : List ℕ
  pub stage : Stage

-- ---- what a stage says. In a list of cowns the place of a request is that of its cown

-- the cowns in whose lists it stands: those that it has exchanged and not released
abbrev pub standing_at : Stage → List ℕ → List ℕ
standing_at (Asking request false) cowns = take request cowns
standing_at (Asking request true) cowns = take (suc request) cowns
standing_at (Recorded row (phases.Leaving request)) cowns = drop request cowns
standing_at (Recorded row _) cowns = cowns

-- the cowns at which its request is settled
abbrev pub settled_at : Stage → List ℕ → List ℕ
settled_at (Asking request exchanged) cowns = take request cowns
settled_at (Recorded row phase) cowns = cowns

-- the cowns at which its request is flagged
abbrev pub flagged_at : Stage → List ℕ → List ℕ
flagged_at (Asking request exchanged) cowns = []
flagged_at (Recorded row (phases.Flagging request)) cowns = take request cowns
flagged_at (Recorded row _) cowns = cowns

-- the row under which its spawn is recorded, if it is
abbrev pub row_at : Stage → Option ℕ
row_at (Asking request exchanged) = None
row_at (Recorded row phase) = Some row

-- the row under which it is ready, if it is
abbrev pub ready_row_at : Stage → Option ℕ
ready_row_at (Recorded row phases.Ready) = Some row
ready_row_at (Recorded row _) = None
ready_row_at (Asking request exchanged) = None

-- what has become of its row
abbrev pub life_at : Stage → Life
life_at (Asking request exchanged) = Pending
life_at (Recorded row phases.Running) = Running
life_at (Recorded row (phases.Leaving request)) = Ended
life_at (Recorded row _) = Pending

-- does it ask: is its enqueue open, and its spawn not recorded yet?
abbrev pub asks_at : Stage → Bool
asks_at (Asking request exchanged) = true
asks_at (Recorded row phase) = false

-- is its enqueue open?
abbrev pub enqueues_at : Stage → Bool
enqueues_at (Asking request exchanged) = true
enqueues_at (Recorded row (phases.Flagging request)) = true
enqueues_at (Recorded row phases.Owning) = true
enqueues_at (Recorded row _) = false

-- does it wait?
abbrev pub waits_at : Stage → Bool
waits_at (Recorded row phases.Waiting) = true
waits_at (Recorded row _) = false
waits_at (Asking request exchanged) = false

-- is it ready, running or leaving?
abbrev pub holds_at : Stage → Bool
holds_at (Asking request exchanged) = false
holds_at (Recorded row phases.Ready) = true
holds_at (Recorded row phases.Running) = true
holds_at (Recorded row (phases.Leaving request)) = true
holds_at (Recorded row _) = false

-- ---- the same of an open behaviour, and of none

-- the row that spawns it
abbrev pub parent_of : Option OpenBehaviour → ℕ
parent_of None = 0
parent_of (Some b) = b.parent

-- at how many ticks of that row
abbrev pub offset_of : Option OpenBehaviour → ℕ
offset_of None = 0
offset_of (Some b) = b.offset

-- its cowns, in rising order
abbrev pub cowns_of : Option OpenBehaviour → List ℕ
cowns_of None = []
cowns_of (Some b) = b.cowns

-- the cowns in whose lists it stands
abbrev pub standing : Option OpenBehaviour → List ℕ
standing None = []
standing (Some b) = standing_at b.stage b.cowns

-- the cowns at which its request is settled
abbrev pub settled : Option OpenBehaviour → List ℕ
settled None = []
settled (Some b) = settled_at b.stage b.cowns

-- the cowns at which its request is flagged
abbrev pub flagged : Option OpenBehaviour → List ℕ
flagged None = []
flagged (Some b) = flagged_at b.stage b.cowns

-- its row, if its spawn is recorded
abbrev pub row_of : Option OpenBehaviour → Option ℕ
row_of None = None
row_of (Some b) = row_at b.stage

-- its row, if it is ready
abbrev pub ready_row : Option OpenBehaviour → Option ℕ
ready_row None = None
ready_row (Some b) = ready_row_at b.stage

-- what has become of its row
abbrev pub life : Option OpenBehaviour → Life
life None = Ended
life (Some b) = life_at b.stage

-- does it ask?
abbrev pub asks : Option OpenBehaviour → Bool
asks None = false
asks (Some b) = asks_at b.stage

-- is its enqueue open?
abbrev pub enqueues : Option OpenBehaviour → Bool
enqueues None = false
enqueues (Some b) = enqueues_at b.stage

-- does it wait?
abbrev pub waits : Option OpenBehaviour → Bool
waits None = false
waits (Some b) = waits_at b.stage

-- is it ready, running or leaving?
abbrev pub holds : Option OpenBehaviour → Bool
holds None = false
holds (Some b) = holds_at b.stage
