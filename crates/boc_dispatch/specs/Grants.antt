-- What a granted request, a release and a removal do to what a dispatcher has in hand.
use Rattle.std.specs.Prelude.{◌≡◌, ◌≢◌, ℕ, suc, ◌+◌, ◌<◌, if◌then◌else◌, nat_eq, List, [], ◌∷◌, ◌++◌, length, Option, Some, None, slice_get, slice_set}
use Rattle.std.specs.List.{count_by}
use Rattle.boc_runs.specs.declared.stage.Phase.TheVariants as phases
use Rattle.boc_runs.specs.declared.stage.Stage.{Stage}
use Rattle.boc_runs.specs.declared.stage.Stage.TheVariants.{Recorded}
use Rattle.boc_runs.specs.declared.step.Step.{Step}
use Rattle.boc_program.specs.Programs.{cown_count}
use Rattle.boc_runs.specs.Lives.{Pending}
use Rattle.boc_runs.specs.Run.{config_of}
use Rattle.boc_runs.specs.machine.Stages.{row_at, life_at}
use Rattle.boc_runs.specs.machine.Sound.{IsSound}
use Rattle.boc_runs.specs.machine.Steps.{at, members, recorded, stepped, leaving_on}
use Rattle.boc_dispatch.specs.declared.calls.Left.{Left}
use Rattle.boc_dispatch.specs.declared.calls.Left.TheVariants as left
use Rattle.boc_dispatch.specs.declared.live.Live.{Live}
use Rattle.boc_dispatch.specs.Inside.{Parts, state, live_at, open_of, row_or_0, is_taken, AreNumbered, AreAtHome, AreInHand, AreChained, AreOfRun, AreCounted}
use Rattle.boc_dispatch.specs.Inside.{IsKept, HasRooms}
use Rattle.boc_dispatch.specs.Places.{granted}

-- ---- a grant

-- this behaviour, if there is one at the slot, awaits one thing less
abbrev pub granted_if : Option Live → ℕ → Parts → Parts
granted_if None slot d = d
granted_if (Some l) slot d = record d {
  live = slice_set d.live slot (Some (granted (row_or_0 l.stage) l));
  ready = if nat_eq l.awaited 1 then d.ready ++ slot ∷ [] else d.ready;
}

-- the behaviour at a slot awaits one thing less; where it awaits nothing more it joins the ready list
abbrev pub with_granted : ℕ → Parts → Parts
with_granted slot d = granted_if (live_at d.live slot) slot d

-- the behaviour at a slot awaits something; where that is all it has a row, and there is space for it in the ready list
pub record MayBeGranted (d : Parts) (slot ready_room : ℕ) : Type 0 where
  pub this : Live
  pub is : live_at d.live slot ≡ Some this
  pub awaits : 0 < this.awaited
  pub recorded : this.awaited ≡ 1 → (row : ℕ) × (row_at this.stage ≡ Some row)
  pub room : length d.ready < ready_room

-- ---- a removal

-- the behaviour at a slot is gone, and what was admitted for it
pub record IsRemoved (d : Parts) (slot : ℕ) (e : Parts) : Type 0 where
  pub place_is : e.place slot ≡ None
  pub other_places : (s : ℕ) → s ≢ slot → e.place s ≡ d.place s
  pub parts_are : e ≡ record d { live = slice_set d.live slot None; place = e.place; gone = d.gone + 1 }

-- ---- between a release and the end of its step

-- the slots of the ready list are of ready behaviours
abbrev pub AreReady : List (Option Live) → List ℕ → Type 0
AreReady live ready = (k slot : ℕ) → slice_get ready k ≡ Some slot
    → (l : Live) × (row : ℕ) × (live_at live slot ≡ Some l) × (l.stage ≡ Recorded row phases.Ready)

-- what is kept, except for the state that is sound and for what each counts
pub record Tied (d : Parts) : Type 0 where
  pub cowns_are : d.log.cowns ≡ cown_count d.program.cowns
  pub values_are : d.values ≡ (config_of d.program d.log.events).values
  pub homes_are : length d.homes ≡ length (members d.program (state d))
  pub numbered : AreNumbered d.live d.opened
  pub at_home : AreAtHome d.live d.homes
  pub in_hand : AreInHand d.live
  pub chained : AreChained d.live d.lists d.place
  pub of_run : AreOfRun d.program (members d.program (state d)) d.live
  pub ready_there : AreReady d.live d.ready
  pub left : count_by is_taken d.live + d.gone ≡ d.opened

-- as many behaviours are opened and rows recorded, with the same room
pub record SameRows (d e : Parts) : Type 0 where
  pub recorded_are : recorded e.program (state e) ≡ recorded d.program (state d)
  pub opened_are : e.opened ≡ d.opened
  pub rooms_are : e.log.rooms ≡ d.log.rooms
  pub homes_are : e.homes ≡ d.homes
  pub long : length e.live ≡ length d.live

-- it runs, or has ended
abbrev pub IsStarted : Stage → Type 0
IsStarted stage = life_at stage ≢ Pending

-- Of d, the behaviour at a slot runs or has ended as this row, and has no child in hand; in e its end is recorded, or a request
-- of it is released, and it is to go on with this request.
pub record Released (d : Parts) (slot row : ℕ) (l : Live) (request : ℕ) (e : Parts) : Type 0 where
  pub kept : IsKept d
  pub is : live_at d.live slot ≡ Some l
  pub started : IsStarted l.stage
  pub row_is : row_at l.stage ≡ Some row
  pub childless : l.child ≡ None
  pub tied : Tied e
  pub here : live_at e.live slot ≡ Some l
  pub counted : AreCounted (state e) e.live
  pub program_same : e.program ≡ d.program
  pub sound : IsSound d.program (stepped (leaving_on (state e) l.number (open_of l) row request))
  pub rows : SameRows d e

-- a request of the behaviour at a slot is released, and its step isn't counted yet
pub record IsReleased (slot row request : ℕ) (e : Parts) (homes_room ready_room : ℕ) : Type 0 where
  pub before : Parts
  pub this : Live
  pub low : request < length this.cowns.items
  pub released : Released before slot row this (suc request) e
  pub rooms : HasRooms before homes_room ready_room

-- the behaviour has gone on with this request, or is gone
pub record GoesOnWith (e : Parts) (row : ℕ) (l : Live) (request : ℕ) (f : Parts) : Type 0 where
  pub gives : state f ≡ stepped (leaving_on (state e) l.number (open_of l) row request)
  pub same : f.program ≡ e.program

-- by what is answered with a step
abbrev pub LeftAs : Parts → ℕ → Live → ℕ → Step → Left → Parts → Type 0
LeftAs e row l request step (left.Moved s) f = GoesOnWith e row l request f × (s ≡ step) × (at (state f) l.number ≢ None)
LeftAs e row l request step (left.Gone s) f = GoesOnWith e row l request f × (s ≡ step) × (at (state f) l.number ≡ None)
LeftAs e row l request step _ f = ⊥
