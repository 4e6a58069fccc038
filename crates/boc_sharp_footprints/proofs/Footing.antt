-- Closed sets beside a footprint by kinds make a footprint by arguments.
use Rattle.std.proofs.Common.{◌≡◌, ◌∙◌, ◌⊎◌, ℕ, zero, suc, ◌-◌, ◌<◌, inl, inr, refl, sym, ap, subst, List, [], ◌∷◌, ◌++◌, length, map, replicate, arith}
use Rattle.std.proofs.Common.{Bool, false, IsTrue, ℤ, pos, negsuc, Option, Some, None, length-append}
use Rattle.std.specs.Prelude.{slice_get, slice_set, slice_index_or}
use Rattle.std.specs.List.{Contains}
use Rattle.std.proofs.lemmas.List.{length-set, length-replicate, get_or-set_same, get_or-set_other}
use Rattle.std.proofs.lemmas.Option.{get_or_from_slice_get}
use Rattle.std.proofs.lemmas.Bool.{cases_lt}
use Rattle.boc_program.specs.declared.body.Body.{Body}
use Rattle.boc_program.specs.declared.body.EndStatus.TheVariants.{Done}
use Rattle.boc_program.specs.declared.program.Program.{Program}
use Rattle.boc_program.specs.declared.short.Input.{Input}
use Rattle.boc_program.specs.Meaning.{Wish, start, ends, meaning, cowns_held, values_held}
use Rattle.boc_program.specs.Programs.{cown_count}
use Rattle.boc_program.specs.Signatures.{Signature, signature_of, calls_fit, call_fits, whens_pass}
use Rattle.boc_program.proofs.Truth.{and_true}
use Rattle.boc_runs.specs.Serial.{Behaviour, behaviour_of, inputs_of, meaning_if}
use Rattle.boc_runs.specs.machine.Queues.{times}
use Rattle.boc_runs.proofs.Behaviours.{named, cowns_of_inputs}
use Rattle.boc_footprints.specs.Footprints.{TakesAll, IsFootprint, meant_at}
use Rattle.boc_footprints.specs.Tables.{reaches}
use Rattle.boc_footprints.proofs.Truths.{true_or_false, both_true}
use Rattle.boc_footprints.proofs.Listed.{none_contained}
use Rattle.boc_footprints.proofs.Footing.{wish_takes_all}
use Rattle.boc_sharp_footprints.specs.Known.{Known, known_at, known_at_start}
use Rattle.boc_sharp_footprints.specs.Tables.{Sharp, ByValue, is_in, is_in_there, allows, allows_there, place_of, place_at, reaches_by, leads_to, body_leads}
use Rattle.boc_sharp_footprints.specs.Tables.{IsClosed}
use Rattle.boc_sharp_footprints.specs.Footprints.{IsFootprintByArgs, InFootprintByArgs, ReachedBy}
use Rattle.boc_sharp_footprints.proofs.Sound.{IsAt, law, past_end}
use Rattle.boc_sharp_footprints.proofs.Asked.{IsApart, apart}

-- ---- the start of a body

none_at_all : (n i : ℕ) → known_at (replicate n None) i ≡ None
none_at_all zero i = refl
none_at_all (suc n) zero = refl
none_at_all (suc n) (suc i) = none_at_all n i

front_at : {A : Type 0} (xs ys : List A) (i : ℕ) (v : A) → slice_get xs i ≡ Some v → slice_get (xs ++ ys) i ≡ Some v
front_at [] ys i v h = absurd cc
front_at (x ∷ xs) ys zero v h = h
front_at (x ∷ xs) ys (suc i) v h = front_at xs ys i v h

same_or_not : (i place : ℕ) → (i ≡ place) ⊎ (i ≡ place → ⊥)
same_or_not zero zero = inl refl
same_or_not zero (suc place) = inr (λ e. absurd (omega (arith, e)))
same_or_not (suc i) zero = inr (λ e. absurd (omega (arith, e)))
same_or_not (suc i) (suc place) = elim (same_or_not i place) [
  | inl is ↦ inl (ap suc is)
  | inr not_so ↦ inr (λ e. not_so (omega (arith, e)))
]

known_first : (n place value i : ℕ) (u : ℤ) → known_at (known_at_start n place value) i ≡ Some u → (i ≡ place) × (u ≡ pos value)
known_first n place value i u h =
    let all : Known = replicate n None in
    elim (same_or_not i place) [
      | inl is ↦ elim (cases_lt place (length all)) [
        | inl low ↦
            let here : known_at (slice_set all place (Some (pos value))) place ≡ Some (pos value) = get_or-set_same all place (Some (pos value)) None low in
            let both : Some (pos value) ≡ Some u = sym here ∙ subst (λ k. known_at (slice_set all place (Some (pos value))) k ≡ Some u) is h in
            (is, cc)
        | inr high ↦
            let none : None ≡ Some u = sym (past_end all place (Some (pos value)) high)
            ∙ subst (λ k. known_at (slice_set all place (Some (pos value))) k ≡ Some u) is h in
            absurd cc
      ]
      | inr other ↦
          let none : None ≡ Some u = sym (none_at_all n i) ∙ sym (get_or-set_other all place i (Some (pos value)) None other) ∙ h in
          absurd cc
    ]

at_start : (body : Body) (args : List ℤ) (inputs : List Input) (place value : ℕ) → slice_get args place ≡ Some (pos value)
    → IsAt (cowns_held inputs) (known_at_start body.slots place value) (start body args inputs)
at_start body args inputs place value is =
    let given : List ℤ = args ++ values_held inputs in
    let nothing : Option ℤ = None in
    let zeros : List ℤ = replicate (body.slots - length given) (pos 0) in
    record {
      held_is = refl;
      many = omega (
        arith,
        length-set (replicate body.slots None) place (Some (pos value)),
        length-replicate body.slots nothing,
        length-append given zeros,
        length-replicate (body.slots - length given) (pos 0),
      );
      each = λ i u h.
          let r = known_first body.slots place value i u h in
          let there : slice_get (given ++ zeros) place ≡ Some (pos value) =
          front_at given zeros place (pos value) (front_at args (values_held inputs) place (pos value) is) in
          subst (λ k. slice_index_or (given ++ zeros) k (pos 0) ≡ u) (sym r.0)
          (get_or_from_slice_get (given ++ zeros) place (pos value) (pos 0) there ∙ sym r.1);
    }

-- ---- a wish of a body that may not lead to a cown is apart from it

not_led : (table : Sharp) (sigs : List Signature) (n : ℕ) (body : Body) (args : List ℤ) (inputs : List Input) (place value c : ℕ)
    → IsTrue (whens_pass (call_fits sigs (length (cowns_held inputs)) n) body.block) → slice_get args place ≡ Some (pos value)
    → body_leads table body place value c ≡ false → (w : Wish) → Contains (meaning body args inputs).wishes w → IsApart table (cowns_held inputs) c w
not_led table sigs n body args inputs place value c fits is none w among =
    let held : List ℕ = cowns_held inputs in
    law (call_fits sigs (length held) n) (leads_to table c) held (IsApart table held c) (apart table sigs held n c) body.block
    (known_at_start body.slots place value) fits none (start body args inputs) (ends Done) (at_start body args inputs place value is)
    (λ s i v no. absurd (none_contained v no)) w among

-- a wish is not apart from a cown: it has it and the behaviour does not, or it reaches it
abbrev IsNear : Sharp → List ℕ → ℕ → Wish → Type 0
IsNear table held c w = ((0 < times c w.cowns) × (0 < times c held → ⊥)) ⊎ IsTrue (reaches_by table w.kind w.args c)

not_both : (table : Sharp) (held : List ℕ) (c : ℕ) (w : Wish) → IsNear table held c w → IsApart table held c w → ⊥
not_both table held c w (inl has) h = has.1 (h.own has.0)
not_both table held c w (inr reached) h = h.not_reached reached

module _ (p : Program) (table : Sharp) (closed : IsClosed p table) (b : Behaviour) (values : List ℤ) (takes : TakesAll p b) (w : Wish)
    (among : Contains (meant_at p b values).wishes w) (c : ℕ) (near : IsNear table b.cowns c w) where
  in_set : (one : ByValue) (value : ℕ) (set : List Bool) → slice_get table.by_value b.kind ≡ Some one → slice_get b.args one.place ≡ Some (pos value)
      → slice_get one.sets value ≡ Some set → IsTrue (is_in set c)
  in_set one value set is arg has =
      let sigs : List Signature = map signature_of p.bodies in
      let n : ℕ = cown_count p.cowns in
      let r = named p.bodies (calls_fit sigs n) b.kind (length b.args) (length b.cowns) takes p.calls in
      let inputs : List Input = inputs_of b.cowns values in
      let own : cowns_held inputs ≡ b.cowns = cowns_of_inputs b.cowns values in
      let many : length (cowns_held inputs) ≡ r.body.cown_params = ap length own ∙ r.few_cowns in
      let meant : Contains (meaning r.body b.args inputs).wishes w = subst (λ o. Contains (meaning_if o b.args inputs).wishes w) r.is among in
      let fits : IsTrue (whens_pass (call_fits sigs (length (cowns_held inputs)) n) r.body.block) =
      subst (λ k. IsTrue (whens_pass (call_fits sigs k n) r.body.block)) (sym many) r.passes in
      elim (true_or_false (body_leads table r.body one.place value c)) [
        | inl leads ↦ closed b.kind one r.body is r.is value set has c leads
        | inr not_so ↦
            let far : IsApart table (cowns_held inputs) c w = not_led table sigs n r.body b.args inputs one.place value c fits arg not_so w meant in
            absurd (not_both table b.cowns c w near (subst (λ hs. IsApart table hs c w) own far))
      ]

  at_value : (one : ByValue) (value : ℕ) (o : Option (List Bool)) → slice_get table.by_value b.kind ≡ Some one
      → slice_get b.args one.place ≡ Some (pos value) → slice_get one.sets value ≡ o → IsTrue (is_in_there o c)
  at_value one value None is arg has = refl
  at_value one value (Some set) is arg has = in_set one value set is arg has

  at_arg : (one : ByValue) (x : Option ℤ) → slice_get table.by_value b.kind ≡ Some one → slice_get b.args one.place ≡ x → IsTrue (allows one.sets x c)
  at_arg one None is arg = refl
  at_arg one (Some (pos value)) is arg = at_value one value (slice_get one.sets value) is arg refl
  at_arg one (Some (negsuc value)) is arg = refl

  at_kind : (o : Option ByValue) → slice_get table.by_value b.kind ≡ o → IsTrue (allows_there o (slice_get b.args (place_of o)) c)
  at_kind None is = refl
  at_kind (Some one) is = at_arg one (slice_get b.args one.place) is refl

  allowed : IsTrue (reaches table.by_kind b.kind c) → IsTrue (reaches_by table b.kind b.args c)
  allowed by_kind =
      both_true (reaches table.by_kind b.kind c) (allows_there (slice_get table.by_value b.kind) (slice_get b.args (place_at table b.kind)) c) by_kind
      (at_kind (slice_get table.by_value b.kind) refl)

pub by_kind_too : (table : Sharp) (kind : ℕ) (args : List ℤ) (c : ℕ) → IsTrue (reaches_by table kind args c) → IsTrue (reaches table.by_kind kind c)
by_kind_too table kind args c h =
    (and_true (reaches table.by_kind kind c) (allows_there (slice_get table.by_value kind) (slice_get args (place_at table kind)) c) h).0

own_or_not : (n : ℕ) → (0 < n) ⊎ (0 < n → ⊥)
own_or_not zero = inr (λ h. absurd (omega (arith, h)))
own_or_not (suc n) = inl (omega arith)

pub closed_footprint : (p : Program) (table : Sharp) → IsFootprint p (λ kind cown. IsTrue (reaches table.by_kind kind cown)) → IsClosed p table
    → IsFootprintByArgs p (ReachedBy table)
closed_footprint p table foot closed = record {
  cowns = λ b values w takes among c has. elim (own_or_not (times c b.cowns)) [
    | inl own ↦ inl own
    | inr not_own ↦ elim (foot.cowns b values w takes among c has) [
      | inl own ↦ inl own
      | inr by_kind ↦ inr (allowed p table closed b values takes w among c (inl (has, not_own)) by_kind)
    ]
  ];
  wishes = λ b values w takes among c reached.
      allowed p table closed b values takes w among c (inr reached) (foot.kinds b values w among c (by_kind_too table w.kind w.args c reached));
}

-- footprints of behaviours hold those of wishes
pub holds_wishes : (p : Program) (reach : ℕ → List ℤ → ℕ → Type 0) → IsFootprintByArgs p reach → (b : Behaviour) (values : List ℤ) (w : Wish)
    → Contains (meant_at p b values).wishes w → (c : ℕ) → InFootprintByArgs p reach (behaviour_of w) c → InFootprintByArgs p reach b c
holds_wishes p reach f b values w among c has = λ takes. elim (has (wish_takes_all p b values w among)) [
  | inl own ↦ f.cowns b values w takes among c own
  | inr reached ↦ inr (f.wishes b values w takes among c reached)
]
