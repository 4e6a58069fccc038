-- The rule of runs: pending and running behaviours of a program, event by event.
use Rattle.std.specs.Prelude.{◌≡◌, ℕ, ◌+◌, ◌<◌, List, [], ◌∷◌, ◌++◌, length, ℤ, Option, Some, None, slice_get, option_map}
use Rattle.boc_program.specs.declared.limits.TheConstants.{MOST_ROWS}
use Rattle.std.specs.Option.{option_map_or}
use Rattle.boc_program.specs.declared.body.EndStatus.{EndStatus}
use Rattle.boc_program.specs.declared.short.Input.{Input}
use Rattle.boc_program.specs.declared.program.Program.{Program}
use Rattle.boc_runs.specs.declared.event.Event.{Event}
use Rattle.boc_runs.specs.declared.event.Event.TheVariants.{Spawn, Start, End}
use Rattle.boc_program.specs.Meaning.{Wish, Meaning, meaning}
use Rattle.boc_runs.specs.Serial.{Behaviour, behaviour_of, main_behaviour, inputs_of, after_outputs}
use Rattle.boc_program.specs.Rising.{rising}
use Rattle.boc_program.specs.Programs.{initial_values}
use Rattle.boc_program.specs.Changed.{changed}
use Rattle.boc_runs.specs.Lives.{Life, Pending, Running, Ended, MayStart, AreOver}

-- a behaviour of a run: from its start on its inputs, how many of its wishes were spawned, and what has become of it
pub record Member : Type 0 where
  pub behaviour : Behaviour
  pub inputs : List Input
  pub spawned : ℕ
  pub life : Life

-- where a run stands: its behaviours in spawn order, and the cowns' values, which change only as behaviours end
pub record Config : Type 0 where
  pub members : List Member
  pub values : List ℤ

-- a behaviour that was just spawned
abbrev pub waiting : Behaviour → Member
waiting behaviour = record { behaviour = behaviour; inputs = []; spawned = 0; life = Pending }

-- what a behaviour's body means on its arguments and inputs, if that kind is there
abbrev pub meaning_of : Program → Member → Option Meaning
meaning_of p m = option_map (λ body. meaning body m.behaviour.args m.inputs) (slice_get p.bodies m.behaviour.kind)

-- the next wish that a behaviour has to spawn
abbrev pub wish_at : Option Meaning → ℕ → Option Wish
wish_at None k = None
wish_at (Some m) k = slice_get m.wishes k

-- the next wish of a behaviour of the run
abbrev pub next_wish : Program → Option Member → Option Wish
next_wish p None = None
next_wish p (Some m) = wish_at (meaning_of p m) m.spawned

-- a wish is spawned by a behaviour: it goes behind the others
abbrev pub spawned_by : List Member → ℕ → Option Wish → List Member
spawned_by members parent None = members
spawned_by members parent (Some w) =
    changed members parent (λ m. record m { spawned = m.spawned + 1 }) (slice_get members parent) ++ waiting (behaviour_of w) ∷ []

-- main is spawned first, and later behaviours by their parents' wishes
abbrev pub members_after_spawn : Program → List Member → ℕ → List Member
members_after_spawn p [] parent = waiting main_behaviour ∷ []
members_after_spawn p (main ∷ others) parent =
    spawned_by (main ∷ others) parent (next_wish p (slice_get (main ∷ others) parent))

-- a behaviour starts on the values that its cowns have now
abbrev pub started_on : List ℤ → Member → Member
started_on values m = record m { inputs = inputs_of m.behaviour.cowns values; life = Running }

-- the values after a behaviour's outputs are written to its cowns
abbrev pub values_written : List ℤ → List ℕ → Option Meaning → List ℤ
values_written values cowns None = values
values_written values cowns (Some m) = after_outputs values cowns m.outputs

-- the values after a behaviour of the run has ended
abbrev pub values_after_end : Program → List ℤ → Option Member → List ℤ
values_after_end p values None = values
values_after_end p values (Some m) = values_written values m.behaviour.cowns (meaning_of p m)

-- where a run stands after an event
abbrev pub config_after : Program → Config → Event → Config
config_after p c (Spawn row parent offset cowns) = record c { members = members_after_spawn p c.members parent }
config_after p c (Start row) = record c { members = changed c.members row (started_on c.values) (slice_get c.members row) }
config_after p c (End row ticks status written) = record {
  members = changed c.members row (λ m. record m { life = Ended }) (slice_get c.members row);
  values = values_after_end p c.values (slice_get c.members row);
}

-- where a run stands before its first event
abbrev pub opening : Program → Config
opening p = record { members = []; values = initial_values p.cowns }

-- where a run stands after events
abbrev pub config_after_all : Program → Config → List Event → Config
config_after_all p c [] = c
config_after_all p c (event ∷ events) = config_after_all p (config_after p c event) events

-- where the run of a log stands
abbrev pub config_of : Program → List Event → Config
config_of p log = config_after_all p (opening p) log

-- what has become of behaviour r, if it is there
abbrev pub state_of : List Member → ℕ → Option Life
state_of members r = option_map (λ m. m.life) (slice_get members r)

-- the cowns of behaviour r
abbrev pub member_cowns : List Member → ℕ → List ℕ
member_cowns members r = option_map_or (λ m. m.behaviour.cowns) (slice_get members r) []

-- the parent runs, and its next wish is for this offset and these cowns, which stand in rising order
pub record SpawnsWish (p : Program) (members : List Member) (parent offset : ℕ) (cowns : List ℕ) : Type 0 where
  pub runs : state_of members parent ≡ Some Running
  pub wish : Wish
  pub next : next_wish p (slice_get members parent) ≡ Some wish
  pub offset_is : offset ≡ wish.offset
  pub cowns_are : cowns ≡ rising wish.cowns

-- the first spawn is main's, and each later one is its parent's next wish
abbrev pub MaySpawn : Program → List Member → ℕ → ℕ → List ℕ → Type 0
MaySpawn p [] parent offset cowns = (parent ≡ 0) × (offset ≡ 0) × (cowns ≡ [])
MaySpawn p (main ∷ others) parent offset cowns = SpawnsWish p (main ∷ others) parent offset cowns

-- the row is running, all its wishes are spawned, and its body ends so
pub record CanEnd (p : Program) (members : List Member) (row ticks : ℕ) (status : EndStatus) (written : List ℕ) : Type 0 where
  pub member : Member
  pub is : slice_get members row ≡ Some member
  pub runs : member.life ≡ Running
  pub means : Meaning
  pub meant : meaning_of p member ≡ Some means
  pub all_spawned : member.spawned ≡ length means.wishes
  pub ticks_are : ticks ≡ means.ticks
  pub status_is : status ≡ means.status
  pub written_is : written ≡ means.written

-- an event that the rule of runs allows
abbrev pub MayHappen : Program → Config → Event → Type 0
MayHappen p c (Spawn row parent offset cowns) =
    (row ≡ length c.members) × (row < MOST_ROWS) × MaySpawn p c.members parent offset cowns.items
MayHappen p c (Start row) = MayStart (state_of c.members) (member_cowns c.members) row
MayHappen p c (End row ticks status written) = CanEnd p c.members row ticks status written.items

-- the rule of runs takes the configuration through all events
abbrev pub IsRunFrom : Program → Config → List Event → Type 0
IsRunFrom p c [] = Unit {0}
IsRunFrom p c (event ∷ events) = MayHappen p c event × IsRunFrom p (config_after p c event) events

-- a log that is a run of a program
abbrev pub IsRun : Program → List Event → Type 0
IsRun p log = IsRunFrom p (opening p) log

-- a run in which every behaviour has ended
pub record IsWholeRun (p : Program) (log : List Event) : Type 0 where
  pub run : IsRun p log
  pub over : AreOver (length (config_of p log).members) (state_of (config_of p log).members)
