-- The bounds of what is measured, with one more sample.
use Rattle.std.proofs.Common.{◌≡◌, ℕ, ◌<◌, ◌≤◌, List, [], ◌∷◌, ◌++◌, arith, refl, sym, subst, ⊎_elim, Some, None}
use Rattle.std.specs.Prelude.{Option}
use Rattle.std.specs.List.{Contains}
use Rattle.std.proofs.lemmas.Bool.{cases_lt}
use Rattle.std.proofs.lemmas.List.Elements.{Contains-append_left, Contains-push, Contains-push_cases}
use Rattle.boc_outcomes.specs.declared.bounds.Bounds.{Bounds}
use Rattle.boc_outcomes.specs.Samples.{Sample}
use Rattle.boc_outcomes.specs.Tallies.{AreBounds, AreBoundsIfAny, widened}

module _ (So : Sample → Type 0) (measure : Sample → ℕ) (samples : List Sample) (s : Sample) where
  kept : (x : Sample) → Contains samples x → Contains (samples ++ s ∷ []) x
  kept x there = Contains-append_left samples (s ∷ []) x there

  -- some sample that is so measures this
  abbrev Measures : List Sample → ℕ → Type 0
  Measures xs n = (x : Sample) × Contains xs x × So x × (measure x ≡ n)

  -- one more that is so
  pub bounds_more : (bounds : Option Bounds) → AreBoundsIfAny So measure samples bounds → So s
      → AreBounds So measure (samples ++ s ∷ []) (widened bounds (measure s))
  bounds_more None none so = record {
    within = λ x there is. ⊎_elim
        (λ (old : Contains samples x). absurd (none x old is))
        (λ (e : s ≡ x). subst (λ (y : Sample). (measure s ≤ measure y) × (measure y ≤ measure s)) e (omega arith, omega arith))
        (Contains-push_cases samples s x there);
    least_is = (s, Contains-push samples s, so, refl);
    most_is = (s, Contains-push samples s, so, refl);
  }
  bounds_more (Some b) are so =
      let new : Bounds = widened (Some b) (measure s) in
      let low = are.least_is in
      let high = are.most_is in
      record {
        within = λ x there is. ⊎_elim
            (λ (old : Contains samples x). let w = are.within x old is in (omega (arith, w.0), omega (arith, w.1)))
            (λ (e : s ≡ x). subst (λ (y : Sample). (new.least ≤ measure y) × (measure y ≤ new.most)) e (omega arith, omega arith))
            (Contains-push_cases samples s x there);
        least_is = ⊎_elim
            (λ (l : b.least < measure s). let m : Measures (samples ++ s ∷ []) new.least = (low.0, kept low.0 low.1, low.2, omega (arith, low.3, l)) in m)
            (λ (g : measure s ≤ b.least). let m : Measures (samples ++ s ∷ []) new.least = (s, Contains-push samples s, so, omega (arith, g)) in m)
            (cases_lt b.least (measure s));
        most_is = ⊎_elim
            (λ (l : b.most < measure s). let m : Measures (samples ++ s ∷ []) new.most = (s, Contains-push samples s, so, omega (arith, l)) in m)
            (λ (g : measure s ≤ b.most). let m : Measures (samples ++ s ∷ []) new.most = (high.0, kept high.0 high.1, high.2, omega (arith, high.3, g)) in m)
            (cases_lt b.most (measure s));
      }

  -- one more that isn't
  pub bounds_same : (b : Bounds) → AreBounds So measure samples b → (So s → ⊥) → AreBounds So measure (samples ++ s ∷ []) b
  bounds_same b are other =
      let low = are.least_is in
      let high = are.most_is in
      record {
        within = λ x there is. ⊎_elim
            (λ (old : Contains samples x). are.within x old is)
            (λ (e : s ≡ x). absurd (other (subst So (sym e) is)))
            (Contains-push_cases samples s x there);
        least_is = (low.0, kept low.0 low.1, low.2, low.3);
        most_is = (high.0, kept high.0 high.1, high.2, high.3);
      }
