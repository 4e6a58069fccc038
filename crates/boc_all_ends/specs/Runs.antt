-- A behaviour that runs at once.
use Rattle.std.specs.Prelude.{ℤ, List, slice_get}
use Rattle.boc_program.specs.declared.program.Program.{Program}
use Rattle.boc_program.specs.Meaning.{Meaning}
use Rattle.boc_runs.specs.Serial.{Behaviour, inputs_of, meaning_if}

-- what a behaviour means that runs on these values of the cowns
abbrev pub meant_at : Program → Behaviour → List ℤ → Meaning
meant_at p b values = meaning_if (slice_get p.bodies b.kind) b.args (inputs_of b.cowns values)
