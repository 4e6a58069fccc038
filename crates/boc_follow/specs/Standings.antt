-- What is kept of the rows of a run of a program.
use Rattle.std.specs.Prelude.{◌≡◌, ℕ, ◌+◌, List, [], ◌∷◌, length, map, ℤ, Option, Some, None, option_map, slice_get, Box}
use Rattle.std.specs.declared.alloc.Global.{Global}
use Rattle.std.specs.Option.{option_and_then, option_map_or}
use Rattle.boc_program.specs.declared.body.Body.{Body}
use Rattle.boc_program.specs.declared.body.EndStatus.{EndStatus}
use Rattle.boc_program.specs.declared.program.Program.{Program}
use Rattle.boc_program.specs.Meaning.{Wish, Meaning, meaning}
use Rattle.boc_program.specs.Rising.{rising}
use Rattle.boc_program.specs.Signatures.{signature_of, AllBelow, CountsAre}
use Rattle.boc_runs.specs.Lives.{Life, Pending, Running, Ended}
use Rattle.boc_runs.specs.Serial.{Behaviour, behaviour_of, main_behaviour, inputs_of, after_outputs}
use Rattle.boc_runs.specs.Run.{Member, meaning_of}
use Rattle.boc_eval.specs.Instances.{behaviour_in}
use Rattle.boc_eval.specs.Wishes.{wish_of}
use Rattle.boc_follow.specs.declared.effect.Effect.{Effect}
use Rattle.boc_follow.specs.declared.row.FollowedRow.{FollowedRow}

-- what the body of a running row means, and how many of its wishes were spawned
pub record Underway : Type 0 where
  pub means : Meaning
  pub spawned : ℕ

-- a row: its behaviour, and while it runs what is under way
pub record Standing : Type 0 where
  pub behaviour : Behaviour
  pub underway : Option Underway

-- ---- of what is kept

-- what is under way of an effect
abbrev pub underway_in : Effect → Underway
underway_in e = record {
  means = record { wishes = map wish_of e.wishes.items; outputs = e.outputs.items; ticks = e.ticks; status = e.status; written = e.written.items };
  spawned = e.spawned;
}

-- the same of one in a box
abbrev pub underway_at : Box Effect Global → Underway
underway_at e = underway_in e.value

-- how a row stands that is kept so
abbrev pub standing_in : FollowedRow → Standing
standing_in row = record {
  behaviour = behaviour_in row.instance;
  underway = option_map underway_at row.effect;
}

-- ---- of a run

-- what is under way of a behaviour that means this, if it runs
abbrev pub underway_if : Life → Option Meaning → ℕ → Option Underway
underway_if Running (Some means) spawned = Some (record { means = means; spawned = spawned })
underway_if Running None spawned = None
underway_if Pending means spawned = None
underway_if Ended means spawned = None

-- how a behaviour of a run stands
abbrev pub standing_of : Program → Member → Standing
standing_of p m = record { behaviour = m.behaviour; underway = underway_if m.life (meaning_of p m) m.spawned }

-- ---- what becomes of a row

-- a behaviour that was just spawned
abbrev pub fresh : Behaviour → Standing
fresh b = record { behaviour = b; underway = None }

-- one wish more was spawned
abbrev pub with_one_more : Standing → Standing
with_one_more s = record s { underway = option_map (λ (u : Underway). record u { spawned = u.spawned + 1 }) s.underway }

-- a row starts on the values that its cowns have now
abbrev pub started_in : Program → List ℤ → Standing → Standing
started_in p values s = record s {
  underway =
      option_map
      (λ (body : Body). let u : Underway = record { means = meaning body s.behaviour.args (inputs_of s.behaviour.cowns values); spawned = 0 } in u)
      (slice_get p.bodies s.behaviour.kind);
}

-- a row is over
abbrev pub over_in : Standing → Standing
over_in s = record s { underway = None }

-- the values after a row's outputs are written to its cowns, if it was under way
abbrev pub written_if : Option Underway → List ℕ → List ℤ → List ℤ
written_if None cowns values = values
written_if (Some u) cowns values = after_outputs values cowns u.means.outputs

-- the values after a row's outputs are written to its cowns, while it runs
abbrev pub written_by : Standing → List ℤ → List ℤ
written_by s values = written_if s.underway s.behaviour.cowns values

-- the same of the row at a place, if one is there
abbrev pub written_at : List Standing → ℕ → List ℤ → List ℤ
written_at rows r values = option_map_or (λ s. written_by s values) (slice_get rows r) values

-- ---- what is asked of a row

-- the next wish of what is under way
abbrev pub next_if : Option Underway → Option Wish
next_if None = None
next_if (Some u) = slice_get u.means.wishes u.spawned

-- the next wish of a row, while it runs
abbrev pub next_of : Standing → Option Wish
next_of s = next_if s.underway

-- the same of the row at a place, if one is there
abbrev pub next_at : List Standing → ℕ → Option Wish
next_at rows r = option_and_then next_of (slice_get rows r)

-- a row runs, all its wishes were spawned, and its body ends so
pub record EndsSo (s : Standing) (ticks : ℕ) (status : EndStatus) (written : List ℕ) : Type 0 where
  pub underway : Underway
  pub is : s.underway ≡ Some underway
  pub all_spawned : underway.spawned ≡ length underway.means.wishes
  pub ticks_are : ticks ≡ underway.means.ticks
  pub status_is : status ≡ underway.means.status
  pub written_is : written ≡ underway.means.written

-- its body takes its arguments and its cowns, which are among so many
pub record CanStart (p : Program) (cowns : ℕ) (s : Standing) : Type 0 where
  pub counts : CountsAre (slice_get (map signature_of p.bodies) s.behaviour.kind) (length s.behaviour.args) (length s.behaviour.cowns)
  pub below : AllBelow cowns s.behaviour.cowns

-- its cowns are among so many, and while it runs its body gives an output for each
pub record CanWrite (cowns : ℕ) (s : Standing) : Type 0 where
  pub below : AllBelow cowns s.behaviour.cowns
  pub outputs : (u : Underway) → s.underway ≡ Some u → length s.behaviour.cowns ≡ length u.means.outputs

-- ---- the row that a spawn makes

-- it is the next wish of its parent, and that is for this offset and these cowns
pub record IsWished (rows : List Standing) (parent offset : ℕ) (cowns : List ℕ) (child : Standing) : Type 0 where
  pub wish : Wish
  pub next : next_at rows parent ≡ Some wish
  pub offset_is : offset ≡ wish.offset
  pub cowns_are : cowns ≡ rising wish.cowns
  pub child_is : child ≡ fresh (behaviour_of wish)

-- the row that a spawn makes: main where no row is there yet
abbrev pub IsChild : List Standing → ℕ → ℕ → List ℕ → Standing → Type 0
IsChild [] parent offset cowns child = child ≡ fresh main_behaviour
IsChild (main ∷ others) parent offset cowns child = IsWished (main ∷ others) parent offset cowns child

-- the parent has no next wish, or that is not for this offset and these cowns
abbrev pub NoChild : List Standing → ℕ → ℕ → List ℕ → Type 0
NoChild [] parent offset cowns = ⊥
NoChild (main ∷ others) parent offset cowns =
    (w : Wish) → next_at (main ∷ others) parent ≡ Some w → offset ≡ w.offset → cowns ≡ rising w.cowns → ⊥
