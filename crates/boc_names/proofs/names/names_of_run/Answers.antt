use Rattle.std.proofs.Common.{◌≡◌, ◌∙◌, ℕ, List, ap, map, sym}
use Rattle.std.proofs.lemmas.Simd.{map-map}
use Rattle.boc_program.specs.declared.cown.Cown.{Cown}
use Rattle.boc_runs.specs.Serial.{Behaviour}
use Rattle.boc_runs.specs.Run.{Member}
use Rattle.boc_eval.specs.declared.instance.Instance.{Instance}
use Rattle.boc_eval.specs.Instances.{AreRowsOf, behaviour_in}
use Rattle.boc_names.specs.Names.{Text, NamedCowns, behaviour_text, family_names, family_numbers, instance_text, member_text, named_cowns, texts_of}
use Rattle.boc_names.proofs.Counts.{few_declared}
use Rattle.boc_names.proofs.names.names_of_run.Goals as goal

pub of-requires : goal.of-requires
of-requires c = few_declared c.args.program.now c.as_slice-declared.result.now c.as_slice-declared.ensures

pub family_numbers-requires : goal.family_numbers-requires
family_numbers-requires c = few_declared c.args.program.now c.as_slice-declared.result.now c.as_slice-declared.ensures

named : (defs names : List Text) (cowns : NamedCowns) (declared own : List Cown) (members : List Member) (rows : List Text) → defs ≡ names
    → cowns ≡ named_cowns declared → declared ≡ own → rows ≡ map (member_text defs cowns) members
    → rows ≡ map (member_text names (named_cowns own)) members
named defs names cowns declared own members rows defs_are cowns_are is rows_are =
    rows_are ∙ ap (λ (ds : List Text). map (member_text ds cowns) members) defs_are
    ∙ ap (λ (cs : NamedCowns). map (member_text names cs) members) (cowns_are ∙ ap named_cowns is)

-- what the rows of a run are called by what they are
called : (defs : List Text) (cowns : NamedCowns) (run : List Member) (instances : List Instance) → AreRowsOf run instances
    → map (instance_text defs cowns) instances ≡ map (member_text defs cowns) run
called defs cowns run instances are =
    let text_of : Behaviour → Text = λ b. behaviour_text defs cowns b.kind b.args b.cowns in
    sym (map-map text_of behaviour_in instances) ∙ ap (map text_of) are ∙ map-map text_of (λ (m : Member). m.behaviour) run

kinds : (run : List Member) (instances : List Instance) → AreRowsOf run instances
    → map (λ (i : Instance). i.kind) instances ≡ map (λ (m : Member). m.behaviour.kind) run
kinds run instances are =
    let kind_of : Behaviour → ℕ = λ b. b.kind in
    sym (map-map kind_of behaviour_in instances) ∙ ap (map kind_of) are ∙ map-map kind_of (λ (m : Member). m.behaviour) run

pub returns : goal.returns
returns c run are =
    let p = c.args.program.now in
    let is : c.as_slice-declared.result.now ≡ p.cowns = (cc) in
    let rows = c.in_ok-defs.ensures.rows ∙ called (texts_of c.deref.result.now) c.in_ok-cowns.cowns run c.args.instances.now are in
    record {
      defs = c.in_ok-defs.ensures.kinds ∙ kinds run c.args.instances.now are;
      def_names = c.in_ok-def_names.ensures;
      rows = named _ _ _ _ _ _ _ (ap texts_of c.deref.ensures.value ∙ c.in_ok-def_names.ensures) c.in_ok-cowns.ensures is rows;
      cowns = c.into_names.ensures ∙ ap (λ (cowns : NamedCowns). cowns.names) (c.in_ok-cowns.ensures ∙ ap named_cowns is);
      families = c.in_ok-family_numbers.ensures ∙ ap (family_numbers 0) is;
      family_names = c.in_ok-family_names.ensures ∙ ap family_names is;
    }
