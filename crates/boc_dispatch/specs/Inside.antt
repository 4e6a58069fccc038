-- How a dispatcher is kept, and what it keeps.
use Rattle.std.specs.Prelude.{◌≡◌, ℕ, zero, suc, ◌+◌, ◌^◌, ◌<◌, ◌≤◌, Bool, true, false, ◌||◌, if◌then◌else◌, nat_eq, nat_lt, List, [], ◌∷◌, ◌++◌, length, map}
use Rattle.std.specs.Prelude.{ℤ, slice_get, slice_index_or, vec_capacity, Option, Some, None}
use Rattle.std.specs.Option.{option_map, option_map_or}
use Rattle.std.specs.List.{count_by}
use Rattle.std.specs.VecDeque.{deque_capacity}
use Rattle.boc_runs.specs.declared.event.Event.{Event}
use Rattle.boc_program.specs.declared.program.Program.{Program}
use Rattle.boc_runs.specs.declared.stage.Phase.TheVariants as phases
use Rattle.boc_runs.specs.declared.stage.Stage.{Stage}
use Rattle.boc_runs.specs.declared.stage.Stage.TheVariants.{Asking, Recorded}
use Rattle.boc_program.specs.Meaning.{Wish}
use Rattle.boc_program.specs.Rising.{rising}
use Rattle.boc_program.specs.Programs.{cown_count}
use Rattle.boc_runs.specs.Serial.{Behaviour}
use Rattle.boc_runs.specs.Run.{Member, config_of, next_wish}
use Rattle.boc_runs.specs.machine.Stages.{OpenBehaviour, settled_at, flagged_at, row_at, asks_at, enqueues_at, waits_at}
use Rattle.boc_runs.specs.machine.Queues.{times, is_granted}
use Rattle.boc_runs.specs.machine.Steps.{State, at, queue, members, unrecorded}
use Rattle.boc_runs.specs.machine.Sound.{IsSound}
use Rattle.boc_chain.specs.declared.request.Request.{Request}
use Rattle.boc_chain.specs.Chain.{Place}
use Rattle.boc_rules.specs.Log.{Log}
use Rattle.boc_dispatch.specs.declared.live.Live.{Live}
use Rattle.boc_dispatch.specs.declared.roster.Roster.{Roster}
use Rattle.boc_dispatch.specs.Underway.{Underway}

-- ---- what is kept stands for a state of the machine

-- the behaviour at a slot, if there is one
abbrev pub live_at : List (Option Live) → ℕ → Option Live
live_at live slot = slice_index_or live slot None

-- this behaviour, if it has this number, else the other
abbrev pub if_numbered : ℕ → Option Live → Option Live → Option Live
if_numbered number None other = other
if_numbered number (Some l) other = if nat_eq l.number number then Some l else other

-- the behaviour of a number, if there is one
abbrev pub find_live : ℕ → List (Option Live) → Option Live
find_live number [] = None
find_live number (place ∷ live) = if_numbered number place (find_live number live)

-- the open behaviour that it stands for
abbrev pub open_of : Live → OpenBehaviour
open_of l = record { parent = l.parent; offset = l.offset; cowns = l.cowns.items; stage = l.stage }

-- the open behaviours of the first numbers
abbrev pub behaviours_of : List (Option Live) → ℕ → List (Option OpenBehaviour)
behaviours_of live zero = []
behaviours_of live (suc n) = behaviours_of live n ++ option_map open_of (find_live n live) ∷ []

-- the number of the behaviour at a slot
abbrev pub number_at : List (Option Live) → ℕ → ℕ
number_at live slot = option_map_or (λ l. l.number) (live_at live slot) 0

-- the lists of the cowns, by numbers
abbrev pub queues_of : List (Option Live) → List (List Request) → List (List ℕ)
queues_of live lists = map (λ requests. map (λ r. number_at live r.slot) requests) lists

-- the row of a stage, and 0 where it has none
abbrev pub row_or_0 : Stage → ℕ
row_or_0 stage = option_map_or (λ row. row) (row_at stage) 0

-- the rows of the behaviours at these slots
abbrev pub rows_at : List (Option Live) → List ℕ → List ℕ
rows_at live slots = map (λ slot. option_map_or (λ l. row_or_0 l.stage) (live_at live slot) 0) slots

-- the state that is kept so
abbrev pub state_of : List Event → List (Option Live) → ℕ → List (List Request) → List ℕ → ℕ → State
state_of log live opened lists ready steps = record {
  log = log;
  behaviours = behaviours_of live opened;
  queues = queues_of live lists;
  ready = rows_at live ready;
  steps = steps;
}

-- ---- what is kept of each behaviour

-- what it is
abbrev pub behaviour_of : Live → Behaviour
behaviour_of l = record { kind = l.kind; args = l.args.items; cowns = l.params.items }

-- how many of its requests are exchanged
abbrev pub exchanged_at : Stage → List ℕ → ℕ
exchanged_at (Asking request false) cowns = request
exchanged_at (Asking request true) cowns = suc request
exchanged_at (Recorded row phase) cowns = length cowns

-- what its slot was admitted with
abbrev pub place_of : Live → Place
place_of l = record { cowns = l.cowns.items; exchanged = exchanged_at l.stage l.cowns.items }

-- no two have one number, and all numbers were given
pub record AreNumbered (live : List (Option Live)) (opened : ℕ) : Type 0 where
  pub once : (i j : ℕ) (l m : Live) → live_at live i ≡ Some l → live_at live j ≡ Some m → l.number ≡ m.number → i ≡ j
  pub given : (i : ℕ) (l : Live) → live_at live i ≡ Some l → l.number < opened

-- each is at the home of its row
abbrev pub AreAtHome : List (Option Live) → List ℕ → Type 0
AreAtHome live homes = (slot row : ℕ) (l : Live) → live_at live slot ≡ Some l → row_at l.stage ≡ Some row → slice_get homes row ≡ Some slot

-- the child whose enqueue is open
pub record IsChildOf (live : List (Option Live)) (slot : ℕ) (parent : Live) : Type 0 where
  pub child : Live
  pub is : live_at live slot ≡ Some child
  pub enqueued : enqueues_at child.stage ≡ true
  pub parent_is : row_at parent.stage ≡ Some child.parent

-- the parent that knows the slot of a child
pub record IsParentOf (live : List (Option Live)) (slot : ℕ) (child : Live) : Type 0 where
  pub home : ℕ
  pub parent : Live
  pub is : live_at live home ≡ Some parent
  pub row_is : row_at parent.stage ≡ Some child.parent
  pub knows : parent.child ≡ Some slot

-- who has a child in hand has one whose enqueue is open, and each open enqueue is in its parent's hand
pub record AreInHand (live : List (Option Live)) : Type 0 where
  pub children : (home slot : ℕ) (l : Live) → live_at live home ≡ Some l → l.child ≡ Some slot → IsChildOf live slot l
  pub parents : (slot : ℕ) (l : Live) → live_at live slot ≡ Some l → enqueues_at l.stage ≡ true → IsParentOf live slot l

-- a request of a list is that of the behaviour at its slot, settled and flagged as that is
pub record IsRequestOf (live : List (Option Live)) (c : ℕ) (r : Request) : Type 0 where
  pub this : Live
  pub is : live_at live r.slot ≡ Some this
  pub settled_is : r.settled ≡ nat_lt 0 (times c (settled_at this.stage this.cowns.items))
  pub flagged_is : r.flagged ≡ nat_lt 0 (times c (flagged_at this.stage this.cowns.items))

-- the chains have the requests of these behaviours
pub record AreChained (live : List (Option Live)) (lists : List (List Request)) (place : ℕ → Option Place) : Type 0 where
  pub requests : (c k : ℕ) (r : Request) → slice_get (slice_index_or lists c []) k ≡ Some r → IsRequestOf live c r
  pub places : (slot : ℕ) → place slot ≡ option_map place_of (live_at live slot)

-- a recorded behaviour is that of its row in the run
pub record IsMember (rows : List Member) (l : Live) (row : ℕ) : Type 0 where
  pub member : Member
  pub is : slice_get rows row ≡ Some member
  pub behaviour_is : member.behaviour ≡ behaviour_of l
  pub spawned_is : member.spawned ≡ l.spawned

-- an asking behaviour is that of its parent's next wish
pub record IsWished (p : Program) (rows : List Member) (l : Live) : Type 0 where
  pub wish : Wish
  pub next : next_wish p (slice_get rows l.parent) ≡ Some wish
  pub kind_is : wish.kind ≡ l.kind
  pub args_are : wish.args ≡ l.args.items
  pub cowns_are : wish.cowns ≡ l.params.items
  pub new : l.spawned ≡ 0

-- the behaviours are those of the run
pub record AreOfRun (p : Program) (rows : List Member) (live : List (Option Live)) : Type 0 where
  pub recorded : (slot row : ℕ) (l : Live) → live_at live slot ≡ Some l → row_at l.stage ≡ Some row → IsMember rows l row
  pub asking : (slot : ℕ) (l : Live) → live_at live slot ≡ Some l → asks_at l.stage ≡ true → IsWished p rows l

-- how many of a behaviour's requests aren't granted
abbrev pub ungranted : State → ℕ → List ℕ → ℕ
ungranted s who cowns = count_by (λ c. if is_granted (at s) (queue s) who c then false else true) cowns

-- what it awaits: its requests that aren't granted, and its Own
abbrev pub awaits : State → Live → ℕ
awaits s l = ungranted s l.number l.cowns.items + (if enqueues_at l.stage then 1 else 0)

-- until it is ready each counts what it awaits, and none of whoever is enqueued or waits awaits nothing
abbrev pub AreCounted : State → List (Option Live) → Type 0
AreCounted s live = (slot : ℕ) (l : Live) → live_at live slot ≡ Some l → (enqueues_at l.stage || waits_at l.stage) ≡ true → l.awaited ≡ awaits s l

-- how many places of a table are taken
abbrev pub is_taken : Option Live → Bool
is_taken None = false
is_taken (Some l) = true

-- ---- all together

-- what a dispatcher has in hand, its chains by what they hold
pub record Parts : Type 0 where
  pub program : Program
  pub lists : List (List Request)
  pub place : ℕ → Option Place
  pub live : List (Option Live)
  pub homes : List ℕ
  pub ready : List ℕ
  pub log : Log
  pub values : List ℤ
  pub opened : ℕ
  pub gone : ℕ
  pub steps : ℕ

-- where its machine stands
abbrev pub state : Parts → State
state d = state_of d.log.events d.live d.opened d.lists d.ready d.steps

-- the program under way that it is
abbrev pub underway : Parts → Underway
underway d = record { program = d.program; state = state d }

-- what it keeps, apart from room
pub record IsKept (d : Parts) : Type 0 where
  pub sound : IsSound d.program (state d)
  pub cowns_are : d.log.cowns ≡ cown_count d.program.cowns
  pub values_are : d.values ≡ (config_of d.program d.log.events).values
  pub homes_are : length d.homes ≡ length (members d.program (state d))
  pub numbered : AreNumbered d.live d.opened
  pub at_home : AreAtHome d.live d.homes
  pub in_hand : AreInHand d.live
  pub chained : AreChained d.live d.lists d.place
  pub of_run : AreOfRun d.program (members d.program (state d)) d.live
  pub counted : AreCounted (state d) d.live
  pub ready_there : (k slot : ℕ) → slice_get d.ready k ≡ Some slot
      → (l : Live) × (row : ℕ) × (live_at d.live slot ≡ Some l) × (l.stage ≡ Recorded row phases.Ready)
  pub left : count_by is_taken d.live + d.gone ≡ d.opened

-- there is space for each behaviour that has no row yet: for its spawn, its start and its end, for its home, and in the ready list for all;
-- and each slot is kept in 32 bits
pub record HasRooms (d : Parts) (homes_room ready_room : ℕ) : Type 0 where
  pub rooms : unrecorded (state d) ≤ d.log.rooms
  pub homes : length d.homes + unrecorded (state d) ≤ homes_room
  pub ready : length d.live ≤ ready_room
  pub few : length d.live ≤ 2 ^ 32

-- ---- the same of the roster itself, whose chains have these lists and places

-- the parts of a roster
abbrev pub parts_of : {C : Type 0} → (C → List (List Request)) → (C → ℕ → Option Place) → Roster C → Parts
parts_of lists place m = record {
  program = m.program.now;
  lists = lists m.chains;
  place = place m.chains;
  live = m.live.slots;
  homes = m.homes.items;
  ready = m.ready.items;
  log = m.log;
  values = m.values.items;
  opened = m.opened;
  gone = m.gone;
  steps = m.steps;
}

-- it keeps all of that, and has room
pub record IsSoundRoster {C : Type 0} (lists : C → List (List Request)) (place : C → ℕ → Option Place) (m : Roster C) : Type 0 where
  pub kept : IsKept (parts_of lists place m)
  pub rooms : HasRooms (parts_of lists place m) (vec_capacity m.homes) (deque_capacity m.ready)

-- ---- what its functions ask for and do

-- the behaviour at a slot is this one, at this stage
pub record IsAtStage (d : Parts) (slot : ℕ) (l : Live) (stage : Stage) : Type 0 where
  pub is : live_at d.live slot ≡ Some l
  pub stage_is : l.stage ≡ stage

-- the behaviour at a slot is at this stage
abbrev pub IsStageAt : Parts → ℕ → Stage → Type 0
IsStageAt d slot stage = (l : Live) × IsAtStage d slot l stage

-- the behaviour at a slot is that of a row
pub record IsOfRow (d : Parts) (slot row : ℕ) : Type 0 where
  pub this : Live
  pub is : live_at d.live slot ≡ Some this
  pub row_is : row_at this.stage ≡ Some row

-- the behaviour at a slot has this child in hand, whose enqueue is open, or none
pub record HasInHand (d : Parts) (slot : ℕ) (child : Option ℕ) : Type 0 where
  pub this : Live
  pub is : live_at d.live slot ≡ Some this
  pub child_is : this.child ≡ child

-- a state of the same program, to which the machine went from the one before
abbrev pub GoesOn : (State → State → Type 0) → Parts → Parts → Type 0
GoesOn Step d e = Step (state d) (state e) × (e.program ≡ d.program)

-- nothing has changed
abbrev pub Stays : Parts → Parts → Type 0
Stays d e = underway e ≡ underway d

-- a behaviour as it is opened for the next wish of a row
pub record IsNew (d : Parts) (row : ℕ) (l : Live) : Type 0 where
  pub number_is : l.number ≡ d.opened
  pub parent_is : l.parent ≡ row
  pub wished : IsWished d.program (members d.program (state d)) l
  pub offset_is : l.offset ≡ wished.wish.offset
  pub rising_is : l.cowns.items ≡ rising l.params.items
  pub stage_is : l.stage ≡ Asking 0 false
  pub awaited_is : l.awaited ≡ length l.cowns.items + 1
  pub childless : l.child ≡ None
