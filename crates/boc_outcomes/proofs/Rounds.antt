-- The draws of a round, and the rounds of draws.
use Rattle.std.proofs.Common.{◌≡◌, ℕ, zero, suc, ◌+◌, ◌-◌, ◌<◌, ◌≤◌, ◌⊎◌, List, [], ◌∷◌, ◌++◌, length, map, arith, refl, subst, inl, inr}
use Rattle.std.proofs.Common.{Some, None, Ok, Err}
use Rattle.std.specs.Prelude.{Option, MatchResult, IsSome, slice_get}
use Rattle.std.specs.List.{AllZip, Contains, range_with_len}
use Rattle.std.specs.declared.alloc.Global.{Global}
use Rattle.std.specs.declared.result.Result.{Result}
use Rattle.std.specs.declared.vec.Vec.{Vec}
use Rattle.std.proofs.lemmas.List.{length-append, length-map}
use Rattle.std.proofs.lemmas.Option.{get_or_from_slice_get, slice_get_within}
use Rattle.boc_program.specs.declared.program.Program.{Program}
use Rattle.boc_plans.proofs.Numbered.{range_at, range_long}
use Rattle.boc_draws.specs.declared.fault.DrawFault.{DrawFault}
use Rattle.boc_draws.specs.declared.fault.DrawFault.TheVariants as faults
use Rattle.boc_outcomes.specs.declared.asked.Asked.{Asked}
use Rattle.boc_outcomes.specs.declared.bounds.Bounds.{Bounds}
use Rattle.boc_outcomes.specs.declared.sampling.Sampled.{Sampled}
use Rattle.boc_outcomes.specs.declared.tally.Tally.{Tally}
use Rattle.boc_outcomes.specs.Samples.{AreSampled, AreSamples, IsRound, IsSampled, IsSampleOf, Sample, sample_of}
use Rattle.boc_outcomes.specs.Tallies.{Any, AnswersAsked, AreBoundsIfAny, Tallies}

-- ---- a round

module _ (p : Program) (asked : Asked) where
  all_ok : (xs : List ℕ) (ys : List Sampled) → AllZip (λ (x : ℕ) (r : Result Sampled DrawFault). IsSampled p asked x r) xs (map Ok ys)
      → AllZip (λ (x : ℕ) (y : Sampled). IsSampleOf p asked x (sample_of y)) xs ys
  all_ok [] [] h = tt
  all_ok [] (y ∷ ys) h = absurd h
  all_ok (x ∷ xs) [] h = absurd h
  all_ok (x ∷ xs) (y ∷ ys) h = (h.0, all_ok xs ys h.1)

  are_sampled : (from to : ℕ) (ys : List Sampled) → from ≤ to
      → AllZip (λ (x : ℕ) (y : Sampled). IsSampleOf p asked x (sample_of y)) (range_with_len from (to - from)) ys → AreSampled p asked from to ys
  are_sampled from to ys order z =
      let P = λ (x : ℕ) (y : Sampled). IsSampleOf p asked x (sample_of y) in
      let long : length ys ≡ to - from = range_long P from (to - from) ys z in
      record {
        whole = omega (arith, long, order);
        each = λ k y is.
            let low : k < to - from = omega (arith, slice_get_within ys k y is, long) in
            subst (λ (s : Sampled). IsSampleOf p asked (from + k) (sample_of s)) (get_or_from_slice_get ys k y y is)
            (range_at P y from (to - from) ys z k low);
      }

  -- the answers of a round, from those of its draws
  pub round_of : (from to : ℕ) (answers : List (Result Sampled DrawFault)) (r : Result (Vec Sampled Global) DrawFault) → from ≤ to
      → AllZip (λ (x : ℕ) (o : Result Sampled DrawFault). IsSampled p asked x o) (range_with_len from (to - from)) answers
      → MatchResult r (λ (c : Vec Sampled Global). (ys : List Sampled) × (answers ≡ map Ok ys) × (c.items ≡ ys)) (λ e. Contains answers (Err e))
      → IsRound p asked from to r
  round_of from to answers (Ok c) order z (ys, are, is) =
      are_sampled from to c.items order (rw is (all_ok (range_with_len from (to - from)) ys (rw are at z)))
  round_of from to answers (Err faults.Memory) order z there = tt
  round_of from to answers (Err faults.Behaviours) order z (k, low, is) =
      let e : DrawFault = faults.Behaviours in
      let Q = λ (x : ℕ) (o : Result Sampled DrawFault). IsSampled p asked x o in
      let long : length answers ≡ to - from = range_long Q from (to - from) answers z in
      (from + k, omega (arith, low, long, order), subst (Q (from + k)) is (range_at Q (Err e) from (to - from) answers z k (omega (arith, low, long))))

-- ---- rounds

got_append : {A : Type 0} (xs ys : List A) (k : ℕ) (x : A) → slice_get (xs ++ ys) k ≡ Some x
    → (slice_get xs k ≡ Some x) ⊎ ((j : ℕ) × (k ≡ length xs + j) × (slice_get ys j ≡ Some x))
got_append [] ys k x e = inr (k, omega arith, e)
got_append (y ∷ xs) ys zero x e = inl e
got_append (y ∷ xs) ys (suc k) x e =
    elim (got_append xs ys k x e) [
      | inl f ↦ inl f
      | inr q ↦ inr (q.0, omega (arith, q.1), q.2)
    ]

got_map : {A B : Type 0} (f : A → B) (xs : List A) (k : ℕ) (y : B) → slice_get (map f xs) k ≡ Some y → (x : A) × (slice_get xs k ≡ Some x) × (f x ≡ y)
got_map f [] k y e = absurd (let g : None ≡ Some y = e in cc)
got_map f (x ∷ xs) zero y e = (x, refl, (let g : Some (f x) ≡ Some y = e in cc))
got_map f (x ∷ xs) (suc k) y e = got_map f xs k y e

-- so many draws are tallied
pub record HasDrawn (p : Program) (asked : Asked) (done : ℕ) (tally : Tally) : Type 0 where
  pub within : done ≤ asked.runs
  pub samples : List Sample
  pub are : AreSamples p asked done samples
  pub tallied : Tallies asked.seed samples tally

module _ (p : Program) (asked : Asked) where
  pub none_drawn : (tally : Tally) → Tallies asked.seed [] tally → HasDrawn p asked 0 tally
  none_drawn tally so = record {
    within = omega arith;
    samples = [];
    are = record { all = refl; each = λ number s is. absurd (let g : None ≡ Some s = is in cc) };
    tallied = so;
  }

  round_more : (from to : ℕ) (samples : List Sample) (all : List Sampled) → AreSamples p asked from samples → AreSampled p asked from to all
      → AreSamples p asked to (samples ++ map sample_of all)
  round_more from to samples all are next = record {
    all = omega (arith, length-append samples (map sample_of all), length-map all sample_of, are.all, next.whole);
    each = λ number s is. elim (got_append samples (map sample_of all) number s is) [
      | inl old ↦ are.each number s old
      | inr q ↦ (
          let m = got_map sample_of all q.0 s q.2 in
          let e : from + q.0 ≡ number = omega (arith, q.1, are.all) in
          subst (λ (n : ℕ). IsSampleOf p asked n s) e (subst (IsSampleOf p asked (from + q.0)) m.2 (next.each q.0 m.0 m.1)))
    ];
  }

  pub round_drawn : (from to : ℕ) (all : List Sampled) (tally now : Tally) → HasDrawn p asked from tally → AreSampled p asked from to all → to ≤ asked.runs
      → ((xs : List Sample) → length xs ≡ from → Tallies asked.seed xs tally → Tallies asked.seed (xs ++ map sample_of all) now)
      → HasDrawn p asked to now
  round_drawn from to all tally now so next low step = record {
    within = low;
    samples = so.samples ++ map sample_of all;
    are = round_more from to so.samples all so.are next;
    tallied = step so.samples so.are.all so.tallied;
  }

  pub fault_of : (from to : ℕ) (fault : DrawFault) → IsRound p asked from to (Err fault) → to ≤ asked.runs → AnswersAsked p asked (Err fault)
  fault_of from to faults.Behaviours (number, low, ends) few = (number, omega (arith, low, few), ends)
  fault_of from to faults.Memory round few = tt

pub some_bounds : (measure : Sample → ℕ) (samples : List Sample) (bounds : Option Bounds) → 0 < length samples → AreBoundsIfAny Any measure samples bounds
    → IsSome bounds
some_bounds measure samples (Some b) h are = refl
some_bounds measure [] None h are = absurd (omega (arith, h))
some_bounds measure (s ∷ samples) None h are = absurd (are s (0, omega arith, refl) tt)
