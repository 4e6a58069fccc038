-- A behaviour that runs at once leaves a value for each of its cowns, and nothing where it has none.
use Rattle.std.proofs.Common.{◌≡◌, ◌∙◌, ℕ, Bool, true, List, [], ◌++◌, length, map, Option, sym, ap, append-nil, ℤ, pos}
use Rattle.std.specs.Prelude.{◌==◌, slice_get, slice_index_or}
use Rattle.std.proofs.lemmas.Bool.Decides.{Decides-eqb}
use Rattle.std.proofs.lemmas.List.{length-map, nil_from_length}
use Rattle.boc_program.specs.declared.body.Body.{Body}
use Rattle.boc_program.specs.declared.program.Program.{Program}
use Rattle.boc_program.specs.declared.short.Input.{Input}
use Rattle.boc_program.specs.Meaning.{meaning}
use Rattle.boc_program.specs.Rising.{rising}
use Rattle.boc_program.proofs.Outputs.{output_for_each}
use Rattle.boc_runs.specs.Serial.{Behaviour, after_outputs, inputs_of, meaning_if}
use Rattle.boc_uses.specs.declared.uses.Use.{Use}
use Rattle.boc_turns.specs.Turns.{use_at}
use Rattle.boc_row_uses.specs.RowUses.{behaviour_uses, parameter_uses}
use Rattle.boc_row_uses.specs.InTurn.{values_after}

pub value_for_each : (body : Body) (args values outputs : List ℤ) (cowns : List ℕ) (inputs : List Input) → inputs ≡ inputs_of cowns values
    → outputs ≡ (meaning body args inputs).outputs → length cowns ≡ length outputs
value_for_each body args values outputs cowns inputs on are =
    sym (length-map cowns (λ c. let i : Input = record { cown = c; value = slice_index_or values c (pos 0) } in i))
    ∙ sym (ap (length {A = Input}) on)
    ∙ sym (output_for_each body args inputs)
    ∙ sym (ap (length {A = ℤ}) are)

-- there is none
pub no_cowns : (cowns : List ℕ) (test : Bool) → test ≡ (length cowns == 0) → test ≡ true → cowns ≡ []
no_cowns cowns test is holds = nil_from_length cowns ((Decides-eqb (length cowns) 0).0 (sym is ∙ holds))

-- so the values stay
pub left_alone : (p : Program) (b : Behaviour) (values : List ℤ) → b.cowns ≡ [] → values ≡ values_after p b values
left_alone p b values none =
    sym (ap (λ (cs : List ℕ). after_outputs values cs (meaning_if (slice_get p.bodies b.kind) b.args (inputs_of b.cowns values)).outputs) none)

-- and there is no use
pub none_used : (p : Program) (b : Behaviour) (inputs : List Input) (uses : List (Option Use)) → b.cowns ≡ [] → uses ≡ uses ++ behaviour_uses p b inputs
none_used p b inputs uses none =
    sym (append-nil uses) ∙ sym (ap (λ (cs : List ℕ). uses ++ map (use_at b.cowns (parameter_uses p b inputs)) (rising cs)) none)
