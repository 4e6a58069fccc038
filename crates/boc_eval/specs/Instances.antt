-- What a row is, as it is kept and told.
use Rattle.std.specs.Prelude.{◌≡◌, ◌<◌, ℕ, List, [], ◌∷◌, length, map, Some, slice_get}
use Rattle.boc_program.specs.declared.program.Program.{Program}
use Rattle.boc_runs.specs.Serial.{Behaviour}
use Rattle.boc_runs.specs.Run.{Member}
use Rattle.boc_eval.specs.declared.instance.Instance.{Instance}
use Rattle.boc_eval.specs.declared.instance.ToldRow.{ToldRow}

-- the behaviour that an instance is of
abbrev pub behaviour_in : Instance → Behaviour
behaviour_in i = record { kind = i.kind; args = i.args.items; cowns = i.cowns.items }

-- the rows of a run are these, in the order of their numbers
abbrev pub AreRowsOf : List Member → List Instance → Type 0
AreRowsOf run instances = map behaviour_in instances ≡ map (λ m. m.behaviour) run

-- their bodies are bodies of the program
abbrev pub AreKnown : Program → List Instance → Type 0
AreKnown program instances = (row : ℕ) (i : Instance) → slice_get instances row ≡ Some i → i.kind < length program.bodies

-- a row of a run is the behaviour that is told of it
pub record IsTrueOf (run : List Member) (t : ToldRow) : Type 0 where
  pub member : Member
  pub is : slice_get run t.row ≡ Some member
  pub behaviour_is : member.behaviour ≡ behaviour_in t.instance

-- each of some rows is the behaviour that is told of it
abbrev pub AreTrueOf : List Member → List ToldRow → Type 0
AreTrueOf run [] = Unit {0}
AreTrueOf run (t ∷ told) = IsTrueOf run t × AreTrueOf run told

-- each of some rows of a run is what is told of it
abbrev pub AreRight : List Member → List ToldRow → Type 0
AreRight run told = ∥ AreTrueOf run told ∥₁
