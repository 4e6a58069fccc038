-- The uses of behaviours that run one at a time, each at once on the values that those before it left.
use Rattle.std.specs.Prelude.{List, [], ◌∷◌, ◌++◌, Option, ℤ, slice_get}
use Rattle.boc_program.specs.declared.program.Program.{Program}
use Rattle.boc_runs.specs.Serial.{Behaviour, after_outputs, inputs_of, meaning_if}
use Rattle.boc_uses.specs.declared.uses.Use.{Use}
use Rattle.boc_row_uses.specs.RowUses.{behaviour_uses}

-- the values after a behaviour ran at once on these
abbrev pub values_after : Program → Behaviour → List ℤ → List ℤ
values_after p b values = after_outputs values b.cowns (meaning_if (slice_get p.bodies b.kind) b.args (inputs_of b.cowns values)).outputs

-- the uses of these behaviours, which run one after another from these values on
abbrev pub uses_in_turn : Program → List ℤ → List Behaviour → List (Option Use)
uses_in_turn p values [] = []
uses_in_turn p values (b ∷ behaviours) = behaviour_uses p b (inputs_of b.cowns values) ++ uses_in_turn p (values_after p b values) behaviours
