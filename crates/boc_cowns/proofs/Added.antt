-- Ticks that are added to the totals of some cowns, one after the other.
use Rattle.std.proofs.Common.{◌≡◌, ◌≢◌, ℕ, ◌+◌, ◌<◌, ◌≤◌, List, length, refl, ap, sym, ◌∙◌, subst, arith, length-set, cond, true, false, ⊎_elim, inl, inr}
use Rattle.std.specs.Prelude.{slice_index, slice_set, nat_eq}
use Rattle.std.specs.List.{Contains, list_any}
use Rattle.std.specs.List.Sorted.{IsStrictlyIncreasing}
use Rattle.std.proofs.lemmas.Bool.{cases_eq}
use Rattle.std.proofs.lemmas.List.{get_or_default, get_or-set_same, get_or-set_other}
use Rattle.std.proofs.lemmas.List.Kept.{AllPairs-from_increasing}
use Rattle.boc_order.proofs.Found.{among_tells}

-- the ticks are added for the first i cowns
pub record SomeAdded (cowns : List ℕ) (ticks i : ℕ) (old new : List ℕ) : Type 0 where
  pub whole : length new ≡ length old
  pub own : (j : ℕ) → j < i → slice_index new (slice_index cowns j) ≡ slice_index old (slice_index cowns j) + ticks
  pub others : (c : ℕ) → ((j : ℕ) → j < i → slice_index cowns j ≢ c) → slice_index new c ≡ slice_index old c

module _ (cowns : List ℕ) (ticks : ℕ) (old : List ℕ) where
  pub added_none : SomeAdded cowns ticks 0 old old
  added_none = record { whole = refl; own = λ j h. absurd (omega (arith, h)); others = λ c none. refl }

  module _ (rise : IsStrictlyIncreasing cowns) (i : ℕ) (new : List ℕ) (s : SomeAdded cowns ticks i old new) (below : i < length cowns) where
    abbrev cown : ℕ
    cown = slice_index cowns i

    other_cown : (j : ℕ) → j < i → slice_index cowns j ≢ cown
    other_cown j less = λ same. omega (arith, same, AllPairs-from_increasing cowns rise j i 0 less below)

    pub fresh : slice_index new (slice_index cowns i) ≡ slice_index old (slice_index cowns i)
    fresh = s.others cown other_cown

    pub added_more : slice_index cowns i < length old → (sum : ℕ) → sum ≡ slice_index new (slice_index cowns i) + ticks
        → SomeAdded cowns ticks (i + 1) old (slice_set new (slice_index cowns i) sum)
    added_more small sum is =
        let inside : cown < length new = omega (arith, small, s.whole) in
        record {
          whole = length-set new cown sum ∙ s.whole;
          own = λ j h. elim (cases_eq j i) [
            | inl e ↦ rw e (get_or-set_same new cown sum 0 inside ∙ is ∙ ap (λ (k : ℕ). k + ticks) fresh)
            | inr ne ↦ (
                let less : j < i = omega arith in
                get_or-set_other new cown (slice_index cowns j) sum 0 (other_cown j less) ∙ s.own j less)
          ];
          others = λ c none.
              get_or-set_other new cown c sum 0 (λ (e : c ≡ cown). none i (omega arith) (sym e))
              ∙ s.others c (λ j less. none j (omega (arith, less)));
        }

  -- and so they are added for all
  pub added_all : (i : ℕ) (new : List ℕ) → length cowns ≤ i → i ≤ length cowns → SomeAdded cowns ticks i old new → (c : ℕ)
      → slice_index new c ≡ slice_index old c + cond (list_any (nat_eq c) cowns) ticks 0
  added_all i new all up s c = ⊎_elim
      (λ (y : (list_any (nat_eq c) cowns ≡ true) × Contains cowns c).
      let at : slice_index cowns y.1.0 ≡ c = get_or_default cowns y.1.0 0 c y.1.1 ∙ y.1.2 in
      rw y.0 (subst (λ (k : ℕ). slice_index new k ≡ slice_index old k + ticks) at (s.own y.1.0 (omega (arith, all, y.1.1)))))
      (λ (n : (list_any (nat_eq c) cowns ≡ false) × (Contains cowns c → ⊥)).
      let same : slice_index new c ≡ slice_index old c =
      s.others c (λ j less same. n.1 (let l : j < length cowns = omega (arith, less, up) in (j, l, get_or_default cowns j c 0 l ∙ same))) in
      rw n.0 (omega (arith, same)))
      (among_tells c cowns)
