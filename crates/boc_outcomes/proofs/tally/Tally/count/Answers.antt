use Rattle.std.proofs.Common.{◌≡◌, ◌∙◌, List, [], ◌∷◌, ◌++◌, length, refl, sym, subst, ap, arith, Some}
use Rattle.std.specs.Prelude.{slice_get, slice_set}
use Rattle.std.proofs.lemmas.Option.{slice_get_read, slice_get_within}
use Rattle.boc_rules.proofs.Lists.{one_got}
use Rattle.boc_outcomes.specs.declared.tally.Outcome.{Outcome}
use Rattle.boc_outcomes.specs.Samples.{Sample, sample_of}
use Rattle.boc_outcomes.specs.Tallies.{ArePlaces, HasOutcomes}
use Rattle.boc_outcomes.proofs.Adding.{IsNew, counted, counted_new, counted_there, runs_few}
use Rattle.boc_outcomes.proofs.Placing.{places_counted, places_more}
use Rattle.boc_outcomes.proofs.tally.Tally.count.Goals.{After-index_mut, In_ok-insert-in-None}
use Rattle.boc_outcomes.proofs.tally.Tally.count.Goals as goal

-- the outcome that was found
there : (c : After-index_mut) → slice_get c.args.self.now.all.items c.in-Some.place ≡ Some c.index_mut.result.now
there c =
    let all : List Outcome = c.args.self.now.all.items in
    let at = c.in-Some.ensures in
    slice_get_read all (length all) c.in-Some.place c.index_mut.result.now refl (slice_get_within all c.in-Some.place at.outcome at.there)
    c.index_mut.ensures.value

pub index_mut-requires : goal.index_mut-requires
index_mut-requires c =
    let at = c.in-Some.ensures in
    omega (arith, slice_get_within c.args.self.now.all.items c.in-Some.place at.outcome at.there)

pub count-requires : goal.count-requires
count-requires c =
    let so = c.requires.counted in
    let few = runs_few c.args.asked.now.seed so.0 c.args.self.now.all.items c.in-Some.place c.index_mut.result.now so.2
    (there (goal.at.count-requires c).After-index_mut) in
    omega (arith, few, so.1, c.requires.few)

-- the values of the outcome that was found
same : (c : After-index_mut) → c.index_mut.result.now.values.items ≡ c.args.sampled.now.values.items
same c =
    let at = c.in-Some.ensures in
    ap (λ (o : Outcome). o.values.items) (one_got c.args.self.now.all.items c.in-Some.place c.index_mut.result.now at.outcome (there c) at.there) ∙ at.same

pub returns-in-Some-clause-all : goal.returns-in-Some-clause-all
returns-in-Some-clause-all c samples long has =
    let all : List Outcome = c.args.self.now.all.items in
    let s : Sample = sample_of c.args.sampled.now in
    let now = (goal.at.returns-in-Some-clause-all c).After-index_mut in
    subst (λ (o : Outcome). HasOutcomes c.args.asked.now.seed (samples ++ s ∷ []) (slice_set all c.in-Some.place o)) (sym c.count.ensures)
    (counted_there c.args.asked.now.seed samples s all has c.in-Some.place c.index_mut.result.now (there now) (same now))

pub returns-in-Some-clause-placed : goal.returns-in-Some-clause-placed
returns-in-Some-clause-placed c =
    let all : List Outcome = c.args.self.now.all.items in
    let now = (goal.at.returns-in-Some-clause-placed c).After-index_mut in
    subst (λ (o : Outcome). ArePlaces (slice_set all c.in-Some.place o) c.args.self.now.places) (sym c.count.ensures)
    (places_counted all c.in-Some.place c.index_mut.result.now (counted c.index_mut.result.now c.args.sampled.now.span) (there now) refl
    c.args.self.now.places c.requires.placed)

-- the outcome that is new
abbrev new_outcome : In_ok-insert-in-None → Outcome
new_outcome c = record {
  values = c.in_ok-values-in-None.values;
  runs = 1;
  first = c.args.number;
  seed = c.seed_of.result;
  spans = c.of.result;
}

pub returns-in_ok-insert-in-None-clause-all : goal.returns-in_ok-insert-in-None-clause-all
returns-in_ok-insert-in-None-clause-all c samples long has =
    let all : List Outcome = c.args.self.now.all.items in
    let s : Sample = sample_of c.args.sampled.now in
    let o : Outcome = new_outcome c in
    let is_new : IsNew c.args.asked.now.seed samples s o = record {
      values = sym (c.in_ok-values-in-None.ensures.items ∙ c.deref.ensures.value);
      runs = refl;
      first = sym long;
      seed_is = c.seed_of.ensures;
      spans = c.of.ensures;
    } in
    subst (HasOutcomes c.args.asked.now.seed (samples ++ s ∷ [])) (sym {A = List Outcome} c.in_ok-push-in-None.ensures.items)
    (counted_new c.args.asked.now.seed samples s all has o is_new c.in-None.ensures)

pub returns-in_ok-insert-in-None-clause-placed : goal.returns-in_ok-insert-in-None-clause-placed
returns-in_ok-insert-in-None-clause-placed c =
    let all : List Outcome = c.args.self.now.all.items in
    let o : Outcome = new_outcome c in
    subst (λ (l : List Outcome). ArePlaces l c.insert.new.self) (sym {A = List Outcome} c.in_ok-push-in-None.ensures.items)
    (places_more all o c.args.self.now.places c.insert.new.self c.in_ok-key-in-None.key c.len-place.result (omega (arith, c.len-place.ensures))
    (c.in_ok-key-in-None.ensures.items ∙ c.deref-in-None.ensures.value ∙ sym c.deref.ensures.value ∙ sym c.in_ok-values-in-None.ensures.items)
    c.in_ok-insert-in-None.ensures.updates.0 c.requires.placed)
