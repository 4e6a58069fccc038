-- Outcomes, with one more sample.
use Rattle.std.proofs.Common.{◌≡◌, ◌≢◌, ℕ, ◌+◌, ◌<◌, ◌≤◌, List, [], ◌∷◌, ◌++◌, length, arith, refl, sym, ap, subst, ◌∙◌, ⊎_elim, inl, inr, Some, None, ℤ}
use Rattle.std.specs.Prelude.{slice_get, slice_set}
use Rattle.std.specs.List.{Contains}
use Rattle.std.proofs.lemmas.Bool.{cases_eq, cases_order}
use Rattle.std.proofs.lemmas.List.Elements.{Contains-push_cases}
use Rattle.std.proofs.lemmas.List.Sums.{count_by-le-length}
use Rattle.std.proofs.lemmas.Option.{slice_get_within}
use Rattle.boc_program.proofs.ChangedItems.{front_item, last_item, set_other}
use Rattle.boc_rules.proofs.Lists.{got_push, got_set, one_got, set_same}
use Rattle.boc_outcomes.specs.declared.tally.Outcome.{Outcome}
use Rattle.boc_outcomes.specs.Samples.{Sample, seed_of}
use Rattle.boc_outcomes.specs.Tallies.{HasOutcome, HasOutcomes, IsFirstTo, IsOutcome, comes_to, runs_to, widened}
use Rattle.boc_outcomes.proofs.Bounding.{bounds_more, bounds_same}
use Rattle.boc_outcomes.proofs.Counting.{NoneTo, first_kept, first_new, runs_more, runs_none, runs_same}

-- an outcome to which one more run came
abbrev pub counted : Outcome → ℕ → Outcome
counted o span = record o { runs = o.runs + 1; spans = widened (Some o.spans) span }

module _ (seed : ℕ) (samples : List Sample) (s : Sample) where
  abbrev more : List Sample
  more = samples ++ s ∷ []

  outcome_more : (o : Outcome) → IsOutcome seed samples o → s.values ≡ o.values.items → IsOutcome seed more (counted o s.span)
  outcome_more o is e = record {
    runs = ap (λ n. n + 1) is.runs ∙ sym (runs_more o.values.items samples s e);
    first = first_kept o.values.items samples s o.first is.first;
    seed_is = is.seed_is;
    spans = bounds_more (λ (x : Sample). x.values ≡ o.values.items) (λ (x : Sample). x.span) samples s (Some o.spans) is.spans e;
  }

  outcome_same : (o : Outcome) → IsOutcome seed samples o → s.values ≢ o.values.items → IsOutcome seed more o
  outcome_same o is ne = record {
    runs = is.runs ∙ sym (runs_same o.values.items samples s ne);
    first = first_kept o.values.items samples s o.first is.first;
    seed_is = is.seed_is;
    spans = bounds_same (λ (x : Sample). x.values ≡ o.values.items) (λ (x : Sample). x.span) samples s o.spans is.spans ne;
  }

  -- an outcome of the new sample alone
  pub record IsNew (o : Outcome) : Type 0 where
    pub values : s.values ≡ o.values.items
    pub runs : o.runs ≡ 1
    pub first : o.first ≡ length samples
    pub seed_is : o.seed ≡ seed_of seed o.first
    pub spans : o.spans ≡ widened None s.span

  outcome_new : (o : Outcome) → IsNew o → NoneTo o.values.items samples → IsOutcome seed more o
  outcome_new o is none =
      let before = runs_none o.values.items samples none in
      let now = runs_more o.values.items samples s is.values in
      record {
        runs = omega (arith, before, now, is.runs);
        first = subst (IsFirstTo o.values.items more) (sym is.first) (first_new o.values.items samples s is.values none);
        seed_is = is.seed_is;
        spans = rw is.spans (bounds_more (λ (x : Sample). x.values ≡ o.values.items) (λ (x : Sample). x.span) samples s None none is.values);
      }

  module _ (all : List Outcome) (has : HasOutcomes seed samples all) where
    -- two places have two lists of values
    apart : (i j : ℕ) (a b : Outcome) → i ≢ j → slice_get all i ≡ Some a → slice_get all j ≡ Some b → a.values.items ≢ b.values.items
    apart i j a b ne ia ib e = ⊎_elim
        (λ (same : i ≡ j). ne same)
        (⊎_elim
        (λ (l : i < j). has.distinct i j a b l ia ib e)
        (λ (g : j < i). has.distinct j i b a g ib ia (sym e)))
        (cases_order i j)

    -- ---- the values of the sample have an outcome

    module _ (place : ℕ) (o : Outcome) (there : slice_get all place ≡ Some o) (same : o.values.items ≡ s.values) where
      abbrev set : List Outcome
      set = slice_set all place (counted o s.span)

      -- what stands there now had these values before
      had_values : (i : ℕ) (x : Outcome) → slice_get set i ≡ Some x → (y : Outcome) × (slice_get all i ≡ Some y) × (y.values.items ≡ x.values.items)
      had_values i x is = elim (got_set all place i (counted o s.span) x is) [
        | inl p ↦ (o, ap (slice_get all) p.0 ∙ there, ap (λ (y : Outcome). y.values.items) p.1)
        | inr p ↦ (x, p.1, refl)
      ]

      still : (values : List ℤ) → HasOutcome all values → HasOutcome set values
      still values h = elim (cases_eq h.place place) [
        | inl e ↦ (
            let one : h.outcome ≡ o = one_got all place h.outcome o (ap (slice_get all) (sym e) ∙ h.there) there in
            record {
              place = place;
              outcome = counted o s.span;
              there = set_same all place (counted o s.span) o there;
              same = ap (λ (y : Outcome). y.values.items) (sym one) ∙ h.same;
            })
        | inr ne ↦ record {
          place = h.place;
          outcome = h.outcome;
          there = set_other all place h.place (counted o s.span) ne ∙ h.there;
          same = h.same;
        }
      ]

      pub counted_there : HasOutcomes seed more set
      counted_there = record {
        each = λ i x is. (elim (got_set all place i (counted o s.span) x is) [
          | inl p ↦ subst (IsOutcome seed more) p.1 (outcome_more o (has.each place o there) (sym same))
          | inr p ↦ outcome_same x (has.each i x p.1) (λ e. apart i place x o p.0 p.1 there (sym e ∙ sym same))
        ]);
        all = λ x is. ⊎_elim
            (λ (old : Contains samples x). still x.values (has.all x old))
            (λ (e : s ≡ x). let h : HasOutcome set x.values = record {
              place = place;
              outcome = counted o s.span;
              there = set_same all place (counted o s.span) o there;
              same = same ∙ ap (λ (y : Sample). y.values) e;
            } in h)
            (Contains-push_cases samples s x is);
        distinct = λ i j a b l ia ib e.
            (let x = had_values i a ia in
            let y = had_values j b ib in
            has.distinct i j x.0 y.0 l x.1 y.1 (x.2 ∙ e ∙ sym y.2));
      }

    -- ---- they have none

    module _ (o : Outcome) (is_new : IsNew o) (none : (i : ℕ) (x : Outcome) → slice_get all i ≡ Some x → x.values.items ≢ s.values) where
      none_to : NoneTo o.values.items samples
      none_to x there e =
          let h = has.all x there in
          none h.place h.outcome h.there (h.same ∙ e ∙ sym is_new.values)

      pub counted_new : HasOutcomes seed more (all ++ o ∷ [])
      counted_new = record {
        each = λ i x is. (elim (got_push all i o x is) [
          | inl old ↦ outcome_same x (has.each i x old) (λ e. none i x old (sym e))
          | inr p ↦ subst (IsOutcome seed more) p.1 (outcome_new o is_new none_to)
        ]);
        all = λ x is. ⊎_elim
            (λ (old : Contains samples x).
            let was = has.all x old in
            let h : HasOutcome (all ++ o ∷ []) x.values = record {
              place = was.place;
              outcome = was.outcome;
              there = front_item all o was.place (slice_get_within all was.place was.outcome was.there) ∙ was.there;
              same = was.same;
            } in h)
            (λ (e : s ≡ x). let h : HasOutcome (all ++ o ∷ []) x.values = record {
              place = length all;
              outcome = o;
              there = last_item all o;
              same = sym is_new.values ∙ ap (λ (y : Sample). y.values) e;
            } in h)
            (Contains-push_cases samples s x is);
        distinct = λ i j a b l ia ib e. (elim (got_push all i o a ia) [
          | inl old ↦ (elim (got_push all j o b ib) [
            | inl other ↦ has.distinct i j a b l old other e
            | inr q ↦ none i a old (e ∙ ap (λ (y : Outcome). y.values.items) (sym q.1) ∙ sym is_new.values)
          ])
          | inr p ↦ (elim (got_push all j o b ib) [
            | inl other ↦ (let low = slice_get_within all j b other in absurd (omega (arith, low, l, p.0)))
            | inr q ↦ absurd (omega (arith, l, p.0, q.0))
          ])
        ]);
      }

-- an outcome has no more runs than there are samples
pub runs_few : (seed : ℕ) (samples : List Sample) (all : List Outcome) (i : ℕ) (o : Outcome) → HasOutcomes seed samples all → slice_get all i ≡ Some o
    → o.runs ≤ length samples
runs_few seed samples all i o has is =
    let few : runs_to o.values.items samples ≤ length samples = count_by-le-length (comes_to o.values.items) samples in
    omega (arith, (has.each i o is).runs, few)
