-- Tallies of the samples of a round, one after the other.
use Rattle.std.proofs.Common.{◌≡◌, ℕ, ◌+◌, ◌<◌, ◌≤◌, List, [], ◌∷◌, ◌++◌, length, map, take, get_or, arith, refl, sym, ap, subst, ◌∙◌, append-nil, append_assoc}
use Rattle.std.specs.Prelude.{Option, Some, Result, Ok, Err, OnOk}
use Rattle.std.proofs.lemmas.List.{length-append, length-map, length-take-le, length_push, map-append, take_all, take_more}
use Rattle.boc_outcomes.specs.declared.bounds.Bounds.{Bounds}
use Rattle.boc_outcomes.specs.declared.sampling.Sampled.{Sampled}
use Rattle.boc_outcomes.specs.declared.tally.Tally.{Tally}
use Rattle.boc_outcomes.specs.Samples.{Sample, sample_of}
use Rattle.boc_outcomes.specs.Tallies.{Any, ArePlaces, AreRows, AreSpans, HasOutcomes, Tallies, widened}
use Rattle.boc_outcomes.proofs.Bounding.{bounds_more}

-- ---- one more sample

pub rows_more : (samples : List Sample) (s : Sample) (bounds : Option Bounds) → AreRows samples bounds
    → AreRows (samples ++ s ∷ []) (Some (widened bounds s.rows))
rows_more samples s bounds are = bounds_more Any (λ (x : Sample). x.rows) samples s bounds are tt

pub spans_more : (samples : List Sample) (s : Sample) (bounds : Option Bounds) → AreSpans samples bounds
    → AreSpans (samples ++ s ∷ []) (Some (widened bounds s.span))
spans_more samples s bounds are = bounds_more Any (λ (x : Sample). x.span) samples s bounds are tt

-- where two facts hold of what is fine, what follows from both does
pub both_ok : {T E P Q R : Type 0} (r : Result T E) → (P → Q → R) → OnOk r P → OnOk r Q → OnOk r R
both_ok (Ok x) f p q = f p q
both_ok (Err e) f p q = tt

-- a tally with one more sample, from its parts
pub tally_more : (seed : ℕ) (samples : List Sample) (s : Sample) (old new : Tally) → new.rows ≡ Some (widened old.rows s.rows)
    → new.spans ≡ Some (widened old.spans s.span)
    → ArePlaces new.all.items new.places
    → (HasOutcomes seed samples old.all.items → HasOutcomes seed (samples ++ s ∷ []) new.all.items)
    → Tallies seed samples old → Tallies seed (samples ++ s ∷ []) new
tally_more seed samples s old new rows spans places step so = record {
  outcomes_are = step so.outcomes_are;
  places_are = places;
  rows = subst (AreRows (samples ++ s ∷ [])) (sym rows) (rows_more samples s old.rows so.rows);
  spans = subst (AreSpans (samples ++ s ∷ [])) (sym spans) (spans_more samples s old.spans so.spans);
}

-- ---- those of a round

-- the samples behind the first n of a round
abbrev pub behind : List Sample → List Sampled → ℕ → List Sample
behind samples all n = samples ++ map sample_of (take n all)

-- the tally with the first n of a round: there are as many samples as draws, and whatever samples were tallied, these are too
pub record HasAdded (seed from : ℕ) (all : List Sampled) (first : Tally) (n : ℕ) (now : Tally) : Type 0 where
  pub within : n ≤ length all
  pub samples : List Sample
  pub many : length samples ≡ from + n
  pub tallied : Tallies seed samples now
  pub each : (xs : List Sample) → length xs ≡ from → Tallies seed xs first → Tallies seed (behind xs all n) now

take_none : {X : Type 0} (xs : List X) → take 0 xs ≡ []
take_none [] = refl
take_none (x ∷ xs) = refl

behind_none : (samples : List Sample) (all : List Sampled) → behind samples all 0 ≡ samples
behind_none samples all = ap (λ (l : List Sampled). samples ++ map sample_of l) (take_none all) ∙ append-nil samples

behind_more : (samples : List Sample) (all : List Sampled) (n : ℕ) (x : Sampled) → n < length all → get_or all n x ≡ x
    → behind samples all (n + 1) ≡ behind samples all n ++ sample_of x ∷ []
behind_more samples all n x h is =
    ap (λ (l : List Sampled). samples ++ map sample_of l) (take_more all n x h ∙ ap (λ (y : Sampled). take n all ++ y ∷ []) is)
    ∙ ap (λ (l : List Sample). samples ++ l) (map-append sample_of (take n all) (x ∷ []))
    ∙ sym (append_assoc samples (map sample_of (take n all)) (sample_of x ∷ []))

behind_all : (samples : List Sample) (all : List Sampled) (n : ℕ) → length all ≤ n → behind samples all n ≡ samples ++ map sample_of all
behind_all samples all n h = ap (λ (l : List Sampled). samples ++ map sample_of l) (take_all n all h)

long_behind : (samples : List Sample) (all : List Sampled) (n : ℕ) → n ≤ length all → length (behind samples all n) ≡ length samples + n
long_behind samples all n h =
    length-append samples (map sample_of (take n all)) ∙ ap (λ k. length samples + k) (length-map (take n all) sample_of ∙ length-take-le n all h)

pub none_added : (seed from : ℕ) (all : List Sampled) (first : Tally) → ((samples : List Sample) × (length samples ≡ from) × Tallies seed samples first)
    → HasAdded seed from all first 0 first
none_added seed from all first so = record {
  within = omega arith;
  samples = so.0;
  many = omega (arith, so.1);
  tallied = so.2;
  each = λ xs long is. subst (λ (l : List Sample). Tallies seed l first) (sym (behind_none xs all)) is;
}

-- what one more does to a tally, whatever samples it has, as long as they are so many
abbrev pub Adds : ℕ → ℕ → Sampled → Tally → Tally → Type 0
Adds seed number x now next = (samples : List Sample) → length samples ≡ number → Tallies seed samples now → Tallies seed (samples ++ sample_of x ∷ []) next

pub next_added : (seed from : ℕ) (all : List Sampled) (first : Tally) (n number : ℕ) (now next : Tally) (x : Sampled) → HasAdded seed from all first n now
    → n < length all → get_or all n x ≡ x → number ≡ from + n → Adds seed number x now next → HasAdded seed from all first (n + 1) next
next_added seed from all first n number now next x so h is e step = record {
  within = omega (arith, h);
  samples = so.samples ++ sample_of x ∷ [];
  many = omega (arith, length_push so.samples (sample_of x), so.many);
  tallied = step so.samples (omega (arith, so.many, e)) so.tallied;
  each = λ xs long was. subst (λ (l : List Sample). Tallies seed l next) (sym (behind_more xs all n x h is))
      (step (behind xs all n) (omega (arith, long_behind xs all n so.within, long, e)) (so.each xs long was));
}

pub all_added : (seed from : ℕ) (all : List Sampled) (first : Tally) (n : ℕ) (now : Tally) → HasAdded seed from all first n now → length all ≤ n
    → (xs : List Sample) → length xs ≡ from → Tallies seed xs first → Tallies seed (xs ++ map sample_of all) now
all_added seed from all first n now so h xs long was = subst (λ (l : List Sample). Tallies seed l now) (behind_all xs all n h) (so.each xs long was)
