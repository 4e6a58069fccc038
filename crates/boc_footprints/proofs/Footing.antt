-- What the `when`s of bodies name is a footprint.
use Rattle.std.proofs.Common.{◌≡◌, ◌⊎◌, ℕ, ◌<◌, inl, inr, refl, List, length, map, ap, sym, ◌∙◌, subst, ℤ, Option, Some, None}
use Rattle.std.specs.Prelude.{slice_get}
use Rattle.std.specs.List.{Contains}
use Rattle.std.proofs.lemmas.List.{length-map}
use Rattle.boc_program.specs.declared.body.Body.{Body}
use Rattle.boc_program.specs.declared.program.Program.{Program}
use Rattle.boc_program.specs.declared.short.Input.{Input}
use Rattle.boc_program.specs.Meaning.{Wish, cowns_held}
use Rattle.boc_program.specs.Programs.{cown_count}
use Rattle.boc_program.specs.Signatures.{signature_of, calls_fit}
use Rattle.boc_runs.specs.Serial.{Behaviour, behaviour_of, inputs_of, meaning_if}
use Rattle.boc_runs.specs.machine.Queues.{times}
use Rattle.boc_runs.proofs.Behaviours.{named, cowns_of_inputs}
use Rattle.boc_footprints.specs.Footprints.{Reaches, Names, Spawns, TakesAll, IsFootprint, InFootprint, meant_at}
use Rattle.boc_footprints.proofs.Listed.{none_contained}
use Rattle.boc_footprints.proofs.Wishing.{kind_spawned, cown_named}
use Rattle.boc_footprints.proofs.Passing.{body_fits}
use Rattle.boc_footprints.proofs.Taking.{wish_takes}

names_reached : (p : Program) (b : Behaviour) (values : List ℤ) (w : Wish) → TakesAll p b → Contains (meant_at p b values).wishes w → (c : ℕ)
    → 0 < times c w.cowns → (0 < times c b.cowns) ⊎ Reaches p b.kind c
names_reached p b values w takes among c h =
    let r = named p.bodies (calls_fit (map signature_of p.bodies) (cown_count p.cowns)) b.kind (length b.args) (length b.cowns) takes p.calls in
    let inputs : List Input = inputs_of b.cowns values in
    let own : cowns_held inputs ≡ b.cowns = cowns_of_inputs b.cowns values in
    let many : length inputs ≡ r.body.cown_params = sym (simp length-map refl) ∙ ap length own ∙ r.few_cowns in
    let meant : Contains (meaning_if (Some r.body) b.args inputs).wishes w = subst (λ o. Contains (meaning_if o b.args inputs).wishes w) r.is among in
    elim (cown_named (map signature_of p.bodies) (cown_count p.cowns) r.body b.args inputs r.passes many w meant c h) [
      | inl held ↦ inl (subst (λ cs. 0 < times c cs) own held)
      | inr name ↦ inr (Names b.kind c r.body r.is name)
    ]

kinds_reached_if : (p : Program) (b : Behaviour) (values : List ℤ) (w : Wish) (o : Option Body) → slice_get p.bodies b.kind ≡ o
    → Contains (meaning_if o b.args (inputs_of b.cowns values)).wishes w → (c : ℕ) → Reaches p w.kind c → Reaches p b.kind c
kinds_reached_if p b values w None is among c r = absurd (none_contained w among)
kinds_reached_if p b values w (Some body) is among c r =
    Spawns b.kind w.kind c body is (kind_spawned body b.args (inputs_of b.cowns values) w among) r

pub is_footprint : (p : Program) → IsFootprint p (Reaches p)
is_footprint p = record {
  cowns = names_reached p;
  kinds = λ b values w among c r. kinds_reached_if p b values w (slice_get p.bodies b.kind) refl among c r;
}

takes_if : (p : Program) (b : Behaviour) (values : List ℤ) (w : Wish) (o : Option Body) → slice_get p.bodies b.kind ≡ o
    → Contains (meaning_if o b.args (inputs_of b.cowns values)).wishes w → TakesAll p (behaviour_of w)
takes_if p b values w None is among = absurd (none_contained w among)
takes_if p b values w (Some body) is among =
    wish_takes (map signature_of p.bodies) (cown_count p.cowns) body b.args (inputs_of b.cowns values) (body_fits p b.kind body is) w among

pub wish_takes_all : (p : Program) (b : Behaviour) (values : List ℤ) (w : Wish) → Contains (meant_at p b values).wishes w → TakesAll p (behaviour_of w)
wish_takes_all p b values w among = takes_if p b values w (slice_get p.bodies b.kind) refl among

-- whatever the kinds reach, if that makes a footprint, footprints of behaviours hold those of wishes
pub holds_wishes : (p : Program) (reach : ℕ → ℕ → Type 0) → IsFootprint p reach → (b : Behaviour) (values : List ℤ) (w : Wish)
    → Contains (meant_at p b values).wishes w → (c : ℕ) → InFootprint p reach (behaviour_of w) c → InFootprint p reach b c
holds_wishes p reach f b values w among c has = λ takes. elim (has (wish_takes_all p b values w among)) [
  | inl own ↦ f.cowns b values w takes among c own
  | inr reached ↦ inr (f.kinds b values w among c reached)
]
