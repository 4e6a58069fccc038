-- Outcomes in their order: the most frequent first.
use Rattle.std.proofs.Common.{◌≡◌, ℕ, List, sym, subst, Some, ℤ}
use Rattle.std.proofs.Common.{is_lt, Ordering}
use Rattle.std.specs.Prelude.{slice_get}
use Rattle.std.specs.List.Sorted.{IsPermutation, IsSortedBy}
use Rattle.std.proofs.lemmas.List.Sorted.{IsPermutation-sym, Contains-permutation}
use Rattle.boc_order.proofs.HeaviestFirst.{HaveOne, heavy_cmp, heaviest_first, one_moved}
use Rattle.boc_order.proofs.Places.{contains_from_place, place_from_contains}
use Rattle.boc_outcomes.specs.declared.tally.Outcome.{Outcome}
use Rattle.boc_outcomes.specs.Samples.{Sample}
use Rattle.boc_outcomes.specs.Tallies.{HasOutcome, HasOutcomes, IsFirstTo, StandInOrder}
use Rattle.boc_outcomes.proofs.Counting.{one_first, one_value}

abbrev first_of : Outcome → ℕ
first_of o = o.first

abbrev runs_of : Outcome → ℕ
runs_of o = o.runs

-- how the sort compares two outcomes
abbrev pub outcome_cmp : Outcome → Outcome → Ordering
outcome_cmp = heavy_cmp first_of runs_of

module _ (seed : ℕ) (samples : List Sample) where
  -- outcomes with different values came first at different runs
  have_one : (xs : List Outcome) → HasOutcomes seed samples xs → HaveOne first_of xs
  have_one xs has i j a b l ia ib e =
      has.distinct i j a b l ia ib (one_value a.values.items b.values.items samples a.first (has.each i a ia).first
      (subst (IsFirstTo b.values.items samples) (sym e) (has.each j b ib).first))

  -- outcomes that a sort has moved, and that it leaves in their order
  pub outcomes_sorted : (xs ys : List Outcome) → HasOutcomes seed samples xs → IsPermutation xs ys
      → IsSortedBy (λ a b. is_lt (outcome_cmp a b)) ys → HasOutcomes seed samples ys × StandInOrder ys
  outcomes_sorted xs ys has moved up =
      let own = λ (i : ℕ) (o : Outcome) (is : slice_get ys i ≡ Some o). (
      let old = place_from_contains xs o (Contains-permutation ys xs o (IsPermutation-sym xs ys moved) (contains_from_place ys i o is)) in
      has.each old.0 o old.1) in
      let one : HaveOne first_of ys = one_moved first_of xs ys moved (have_one xs has) in (
        record {
          each = own;
          all = λ s there.
              let old = has.all s there in
              let new = place_from_contains ys old.outcome
              (Contains-permutation xs ys old.outcome moved (contains_from_place xs old.place old.outcome old.there)) in
              let h : HasOutcome ys s.values = record { place = new.0; outcome = old.outcome; there = new.1; same = old.same } in h;
          distinct = λ i j a b l ia ib e. one i j a b l ia ib (one_first b.values.items samples a.first b.first
              (subst (λ (v : List ℤ). IsFirstTo v samples a.first) e (own i a ia).first) (own j b ib).first);
        },
        heaviest_first first_of runs_of ys up one,
      )
