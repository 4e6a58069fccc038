-- The nine kinds of steps of the dispatcher: where each is allowed, and what it does.
use Rattle.std.specs.Prelude.{◌≡◌, ◌≢◌, ℕ, suc, ◌+◌, ◌<◌, true, false, if◌then◌else◌, nat_lt, List, [], ◌∷◌, ◌++◌, length, replicate, ℤ, Option, Some, None}
use Rattle.std.specs.Prelude.{slice_get, slice_set, slice_index_or}
use Rattle.std.specs.List.{count_by}
use Rattle.boc_program.specs.declared.limits.TheConstants.{MOST_ROWS}
use Rattle.boc_program.specs.declared.program.Program.{Program}
use Rattle.boc_program.specs.declared.body.EndStatus.{EndStatus}
use Rattle.boc_runs.specs.declared.event.Event.{Event}
use Rattle.boc_runs.specs.declared.event.Event.TheVariants as events
use Rattle.boc_runs.specs.declared.stage.Phase.{Phase}
use Rattle.boc_runs.specs.declared.stage.Phase.TheVariants as phases
use Rattle.boc_runs.specs.declared.stage.Stage.{Stage}
use Rattle.boc_runs.specs.declared.stage.Stage.TheVariants.{Asking, Recorded}
use Rattle.boc_runs.specs.declared.step.Step.{Step}
use Rattle.boc_runs.specs.declared.step.Step.TheVariants as steps
use Rattle.boc_program.specs.Meaning.{Wish}
use Rattle.boc_program.specs.Rising.{rising}
use Rattle.boc_program.specs.Programs.{cown_count}
use Rattle.boc_runs.specs.Lives.{Running}
use Rattle.boc_runs.specs.Run.{Member, config_of, state_of, next_wish, CanEnd}
use Rattle.boc_runs.specs.machine.Stages.{OpenBehaviour, parent_of, settled, flagged, asks, enqueues}
use Rattle.boc_runs.specs.machine.Queues.{times, all_granted}

-- Where the dispatcher stands: the log so far; the open behaviours by the numbers of their Opens, from main's, which is 0,
-- with none where one is gone; for each cown those that asked for it, by number, in order of exchange; the rows that are
-- ready, in order; and how many steps were made.
pub record State : Type 0 where
  pub log : List Event
  pub behaviours : List (Option OpenBehaviour)
  pub queues : List (List ℕ)
  pub ready : List ℕ
  pub steps : ℕ

-- the open behaviour of a number, if there is one
abbrev pub at : State → ℕ → Option OpenBehaviour
at s who = slice_index_or s.behaviours who None

-- the list of a cown
abbrev pub queue : State → ℕ → List ℕ
queue s c = slice_index_or s.queues c []

-- the rows of the log, as the rule of runs has them
abbrev pub members : Program → State → List Member
members p s = (config_of p s.log).members

-- the cowns' values
abbrev pub values : Program → State → List ℤ
values p s = (config_of p s.log).values

-- how many behaviours were opened, which is the number of the next
abbrev pub opened : State → ℕ
opened s = length s.behaviours

-- how many rows there are, which is the number of the next
abbrev pub recorded : Program → State → ℕ
recorded p s = length (members p s)

-- how many enqueues are open whose spawn isn't recorded yet
abbrev pub unrecorded : State → ℕ
unrecorded s = count_by asks s.behaviours

-- every behaviour has ended and is released
abbrev pub IsQuiet : State → Type 0
IsQuiet s = (who : ℕ) → at s who ≡ None

-- main is opened, its spawn is recorded, and it is ready; no step was made
abbrev pub opening_state : Program → State
opening_state p = record {
  log = events.Spawn 0 0 0 (record { items = [] }) ∷ [];
  behaviours = Some (record { parent = 0; offset = 0; cowns = []; stage = Recorded 0 phases.Ready }) ∷ [];
  queues = replicate (cown_count p.cowns) [];
  ready = 0 ∷ [];
  steps = 0;
}

-- ---- what steps are made of

-- one step more
abbrev pub stepped : State → State
stepped s = record s { steps = s.steps + 1 }

-- one event more
abbrev pub noted : State → Event → State
noted s event = record s { log = s.log ++ event ∷ [] }

-- the behaviour of a number is this one, or gone
abbrev pub with_behaviour : State → ℕ → Option OpenBehaviour → State
with_behaviour s who b = record s { behaviours = slice_set s.behaviours who b }

-- it goes on to a stage
abbrev pub with_stage : State → ℕ → OpenBehaviour → Stage → State
with_stage s who b stage = with_behaviour s who (Some (record b { stage = stage }))

-- the list of a cown is this one
abbrev pub with_queue : State → ℕ → List ℕ → State
with_queue s c whos = record s { queues = slice_set s.queues c whos }

-- there is one behaviour more
abbrev pub with_new : State → OpenBehaviour → State
with_new s b = record s { behaviours = s.behaviours ++ Some b ∷ [] }

-- its enqueue goes on with the flag of this request; behind the last it is over but for Own
abbrev pub flagging : List ℕ → ℕ → Phase
flagging cowns request = if nat_lt request (length cowns) then phases.Flagging request else phases.Owning

-- its spawn is recorded under the next row
abbrev pub with_spawn : Program → State → ℕ → OpenBehaviour → State
with_spawn p s who b =
    noted (with_stage s who b (Recorded (recorded p s) (flagging b.cowns 0)))
    (events.Spawn (recorded p s) b.parent b.offset (record { items = b.cowns }))

-- its requests below this one are settled: it goes on to ask for this one; behind the last its spawn is recorded
abbrev pub asking_on : Program → State → ℕ → OpenBehaviour → ℕ → State
asking_on p s who b request =
    if nat_lt request (length b.cowns) then with_stage s who b (Asking request false) else with_spawn p s who b

-- these rows are ready
abbrev pub with_ready : State → List ℕ → State
with_ready s rows = record s { ready = rows }

-- it joins the ready list
abbrev pub made_ready : State → ℕ → OpenBehaviour → ℕ → State
made_ready s who b row = with_ready (with_stage s who b (Recorded row phases.Ready)) (s.ready ++ row ∷ [])

-- its requests below this one are released: it goes on to leave this one; behind the last it is gone
abbrev pub leaving_on : State → ℕ → OpenBehaviour → ℕ → ℕ → State
leaving_on s who b row request =
    if nat_lt request (length b.cowns) then with_stage s who b (Recorded row (phases.Leaving request))
    else with_behaviour s who None

-- a row has no open enqueue
abbrev pub HasNoEnqueue : State → ℕ → Type 0
HasNoEnqueue s row = (who : ℕ) → enqueues (at s who) ≡ true → parent_of (at s who) ≢ row

-- a request of an open behaviour that is due at this stage: its place, and its cown
pub record IsDue (s : State) (who : ℕ) (b : OpenBehaviour) (stage : Stage) (request c : ℕ) : Type 0 where
  pub is : at s who ≡ Some b
  pub stage_is : b.stage ≡ stage
  pub cown : slice_get b.cowns request ≡ Some c

-- ---- Open

-- a row runs, has no open enqueue, and a wish is next; rows and unrecorded enqueues are fewer together than rows may be
pub record MayOpen (p : Program) (s : State) (row : ℕ) (wish : Wish) : Type 0 where
  pub runs : state_of (members p s) row ≡ Some Running
  pub none_open : HasNoEnqueue s row
  pub next : next_wish p (slice_get (members p s) row) ≡ Some wish
  pub room : recorded p s + unrecorded s < MOST_ROWS

-- the behaviour of a row's wish, which asks for its first request
abbrev pub child : ℕ → Wish → OpenBehaviour
child row wish = record { parent = row; offset = wish.offset; cowns = rising wish.cowns; stage = Asking 0 false }

-- there is a new behaviour, asking; with no cowns its spawn is recorded and it is owning
pub record Opens (p : Program) (s : State) (row : ℕ) (t : State) : Type 0 where
  pub wish : Wish
  pub may : MayOpen p s row wish
  pub gives : t ≡ stepped (asking_on p (with_new s (child row wish)) (opened s) (child row wish) 0)

-- ---- Swap

-- the request isn't exchanged; it goes last in its cown's list
pub record Swaps (s : State) (who request : ℕ) (t : State) : Type 0 where
  pub this : OpenBehaviour
  pub c : ℕ
  pub due : IsDue s who this (Asking request false) request c
  pub gives : t ≡ stepped (with_queue (with_stage s who this (Asking request true)) c (queue s c ++ who ∷ []))

-- ---- Settle

-- whoever stands right before a behaviour in the list of a cown is flagged there
abbrev pub IsFlaggedBefore : State → ℕ → ℕ → Type 0
IsFlaggedBefore s c who =
    (ahead behind : List ℕ) (before : ℕ) → queue s c ≡ ahead ++ (before ∷ (who ∷ behind))
    → 0 < times c (flagged (at s before))

-- the request is exchanged, and it is first or the one before is flagged; it is settled, and with the last one the spawn
-- is recorded
pub record Settles (p : Program) (s : State) (who request : ℕ) (t : State) : Type 0 where
  pub this : OpenBehaviour
  pub c : ℕ
  pub due : IsDue s who this (Asking request true) request c
  pub free : IsFlaggedBefore s c who
  pub gives : t ≡ stepped (asking_on p s who this (suc request))

-- blocked: the request is exchanged, and there is one before it, which isn't flagged
pub record IsBlockedAsking (s : State) (who : ℕ) : Type 0 where
  pub this : OpenBehaviour
  pub request : ℕ
  pub c : ℕ
  pub due : IsDue s who this (Asking request true) request c
  pub ahead : List ℕ
  pub before : ℕ
  pub behind : List ℕ
  pub stands : queue s c ≡ ahead ++ (before ∷ (who ∷ behind))
  pub unflagged : times c (flagged (at s before)) ≡ 0

-- ---- Flag

-- all requests are settled, and those below this one flagged; it is flagged
pub record Flags (s : State) (who request : ℕ) (t : State) : Type 0 where
  pub this : OpenBehaviour
  pub row : ℕ
  pub c : ℕ
  pub due : IsDue s who this (Recorded row (phases.Flagging request)) request c
  pub gives : t ≡ stepped (with_stage s who this (Recorded row (flagging this.cowns (suc request))))

-- ---- Own

-- it joins the ready list where all its requests are granted, else it waits
abbrev pub owned : State → ℕ → OpenBehaviour → ℕ → State
owned s who b row =
    if all_granted (at s) (queue s) who then made_ready s who b row else with_stage s who b (Recorded row phases.Waiting)

-- all its requests are flagged
pub record Owns (s : State) (who : ℕ) (t : State) : Type 0 where
  pub this : OpenBehaviour
  pub row : ℕ
  pub is : at s who ≡ Some this
  pub stage_is : this.stage ≡ Recorded row phases.Owning
  pub gives : t ≡ stepped (owned s who this row)

-- ---- Start

-- its row is first in the ready list; it starts
pub record Starts (s : State) (who row : ℕ) (t : State) : Type 0 where
  pub this : OpenBehaviour
  pub rest : List ℕ
  pub is : at s who ≡ Some this
  pub stage_is : this.stage ≡ Recorded row phases.Ready
  pub head : s.ready ≡ row ∷ rest
  pub gives : t ≡ stepped (with_ready (noted (with_stage s who this (Recorded row phases.Running)) (events.Start row)) rest)

-- ---- Finish

-- it is running, has no open enqueue, and its row can end so; it ends, and then leaves, or is gone if it has no cowns
pub record Finishes (p : Program) (s : State) (who row : ℕ) (t : State) : Type 0 where
  pub this : OpenBehaviour
  pub ticks : ℕ
  pub status : EndStatus
  pub written : List ℕ
  pub is : at s who ≡ Some this
  pub stage_is : this.stage ≡ Recorded row phases.Running
  pub none_open : HasNoEnqueue s row
  pub may : CanEnd p (members p s) row ticks status written
  pub gives : t
      ≡ stepped (leaving_on (noted s (events.End row ticks status (record { items = written }))) who this row 0)

-- ---- Unhook and Pass

-- it is leaving, and its request is alone in the list; the list is empty then
pub record Unhooks (s : State) (who row request : ℕ) (t : State) : Type 0 where
  pub this : OpenBehaviour
  pub c : ℕ
  pub due : IsDue s who this (Recorded row (phases.Leaving request)) request c
  pub alone : queue s c ≡ who ∷ []
  pub gives : t ≡ stepped (leaving_on (with_queue s c []) who this row (suc request))

-- a behaviour that waits joins the ready list where all its requests are granted
abbrev pub woken_at : State → ℕ → OpenBehaviour → Stage → State
woken_at s who b (Recorded row phases.Waiting) = if all_granted (at s) (queue s) who then made_ready s who b row else s
woken_at s who b (Recorded row _) = s
woken_at s who b (Asking request exchanged) = s

-- the same of an open behaviour at its stage, and nothing of none
abbrev pub woken_if : State → ℕ → Option OpenBehaviour → State
woken_if s who None = s
woken_if s who (Some b) = woken_at s who b b.stage

-- the same of the behaviour of a number
abbrev pub woken : State → ℕ → State
woken s who = woken_if s who (at s who)

-- it is leaving, and the next in the list is settled; its request comes off the front, and the next may be woken
pub record Passes (s : State) (who row request : ℕ) (t : State) : Type 0 where
  pub this : OpenBehaviour
  pub c : ℕ
  pub next : ℕ
  pub rest : List ℕ
  pub due : IsDue s who this (Recorded row (phases.Leaving request)) request c
  pub front : queue s c ≡ who ∷ (next ∷ rest)
  pub settled_next : 0 < times c (settled (at s next))
  pub gives : t ≡ stepped (woken (leaving_on (with_queue s c (next ∷ rest)) who this row (suc request)) next)

-- blocked: it is leaving, and the next in the list isn't settled
pub record IsBlockedLeaving (s : State) (who row : ℕ) : Type 0 where
  pub this : OpenBehaviour
  pub request : ℕ
  pub c : ℕ
  pub next : ℕ
  pub rest : List ℕ
  pub due : IsDue s who this (Recorded row (phases.Leaving request)) request c
  pub front : queue s c ≡ who ∷ (next ∷ rest)
  pub unsettled : times c (settled (at s next)) ≡ 0

-- ---- all nine

-- a step of an open enqueue
abbrev pub Advances : Program → State → ℕ → Step → State → Type 0
Advances p s who (steps.Swap request) t = Swaps s who request t
Advances p s who (steps.Settle request) t = Settles p s who request t
Advances p s who (steps.Flag request) t = Flags s who request t
Advances p s who steps.Own t = Owns s who t
Advances p s who _ t = ⊥

-- a release
abbrev pub Leaves : State → ℕ → ℕ → Step → State → Type 0
Leaves s who row (steps.Unhook request) t = Unhooks s who row request t
Leaves s who row (steps.Pass request) t = Passes s who row request t
Leaves s who row _ t = ⊥

-- a step of a kind leads from the one state to the other
abbrev pub Makes : Program → State → Step → State → Type 0
Makes p s steps.Open t = (row : ℕ) × Opens p s row t
Makes p s (steps.Swap request) t = (who : ℕ) × Swaps s who request t
Makes p s (steps.Settle request) t = (who : ℕ) × Settles p s who request t
Makes p s (steps.Flag request) t = (who : ℕ) × Flags s who request t
Makes p s steps.Own t = (who : ℕ) × Owns s who t
Makes p s steps.Start t = (who : ℕ) × (row : ℕ) × Starts s who row t
Makes p s steps.Finish t = (who : ℕ) × (row : ℕ) × Finishes p s who row t
Makes p s (steps.Unhook request) t = (who : ℕ) × (row : ℕ) × Unhooks s who row request t
Makes p s (steps.Pass request) t = (who : ℕ) × (row : ℕ) × Passes s who row request t
