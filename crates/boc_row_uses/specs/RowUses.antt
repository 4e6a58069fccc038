-- How the rows of a run use the cowns that they hold.
use Rattle.std.specs.Prelude.{List, [], ◌∷◌, ◌++◌, map, Option, slice_get}
use Rattle.std.specs.Option.{option_map_or}
use Rattle.boc_program.specs.declared.program.Program.{Program}
use Rattle.boc_program.specs.declared.short.Input.{Input}
use Rattle.boc_program.specs.Rising.{rising}
use Rattle.boc_runs.specs.Serial.{Behaviour}
use Rattle.boc_runs.specs.Run.{Member}
use Rattle.boc_uses.specs.declared.uses.Use.{Use}
use Rattle.boc_uses.specs.Uses.{cown_uses}
use Rattle.boc_turns.specs.Turns.{use_at}

-- how a behaviour uses each of its cowns if it starts on these inputs, in the order of its cown parameters
abbrev pub parameter_uses : Program → Behaviour → List Input → List (Option Use)
parameter_uses p b inputs = option_map_or (λ body. cown_uses body b.args inputs) (slice_get p.bodies b.kind) []

-- the same in the order of the cowns' numbers, in which a row has its cowns
abbrev pub behaviour_uses : Program → Behaviour → List Input → List (Option Use)
behaviour_uses p b inputs = map (use_at b.cowns (parameter_uses p b inputs)) (rising b.cowns)

-- for each cown of each behaviour of a run, in their order, whether and how the behaviour uses it, on the inputs that it started on
abbrev pub row_uses : Program → List Member → List (Option Use)
row_uses p [] = []
row_uses p (m ∷ members) = behaviour_uses p m.behaviour m.inputs ++ row_uses p members
