-- Pairs in their order: those that weigh most first.
use Rattle.std.proofs.Common.{◌≡◌, ◌∙◌, ◌⊎◌, subst, ℕ, ◌<◌, List, Bool, true, false, eqb, not, ◌&&◌}
use Rattle.std.proofs.Common.{refl, sym, ap, arith, ⊎_elim, inl, inr, true≢false, is_lt, Ordering, Less, Equal, Greater}
use Rattle.std.specs.Cmp.{IsTotalOrder, nat_cmp_is}
use Rattle.std.specs.List.{filter}
use Rattle.std.specs.List.Sorted.{IsPermutation, IsSortedBy, IsStableBy, ties}
use Rattle.std.specs.Ordering.{nat_cmp, ordering_then, flip_args, on}
use Rattle.std.proofs.lemmas.Bool.{cases_order, eq-eqb, ne_eqb}
use Rattle.std.proofs.lemmas.Cmp.{nat_cmp_total, then_total, back_total, on_total}
use Rattle.std.proofs.lemmas.List.Elements.{filter_agree}
use Rattle.std.proofs.lemmas.List.Sorted.{ranks_by, sorted_far}
use Rattle.std.proofs.lemmas.Option.{get_or_from_slice_get, slice_get_within}
use Rattle.boc_names.specs.Names.{Text}
use Rattle.boc_compare.specs.declared.totals.Totals.{Totals}
use Rattle.boc_compare.specs.declared.pairs.Pair.{Pair}
use Rattle.boc_compare.specs.Pairing.{AreChanges, chain_of, paired, ticks_of, weighs_as_much}

-- how the sort compares two pairs
abbrev pub pair_cmp : Pair → Pair → Ordering
pair_cmp a b = ordering_then (nat_cmp (chain_of b) (chain_of a)) (nat_cmp (ticks_of b) (ticks_of a))

pair_total : IsTotalOrder pair_cmp
pair_total = then_total {R = flip_args (on chain_of nat_cmp)} {S = flip_args (on ticks_of nat_cmp)} (back_total (on_total chain_of nat_cmp_total))
    (back_total (on_total ticks_of nat_cmp_total))

abbrev pair_lt : Pair → Pair → Bool
pair_lt a b = is_lt (pair_cmp a b)

module _ (c d t u : ℕ) where
  -- how two pairs of numbers compare
  abbrev by_both : Ordering
  by_both = ordering_then (nat_cmp c d) (nat_cmp t u)

  at_less : c < d → is_lt by_both ≡ true
  at_less l = rw (sym (nat_cmp_is c d Less l)) refl

  at_greater : d < c → is_lt by_both ≡ false
  at_greater g = rw (sym (nat_cmp_is c d Greater g)) refl

  at_same_less : c ≡ d → t < u → is_lt by_both ≡ true
  at_same_less e l = rw (sym (nat_cmp_is c d Equal e), sym (nat_cmp_is t u Less l)) refl

  at_same_same : c ≡ d → t ≡ u → is_lt by_both ≡ false
  at_same_same e f = rw (sym (nat_cmp_is c d Equal e), sym (nat_cmp_is t u Equal f)) refl

  at_same_greater : c ≡ d → u < t → is_lt by_both ≡ false
  at_same_greater e g = rw (sym (nat_cmp_is c d Equal e), sym (nat_cmp_is t u Greater g)) refl

  -- what isn't less is greater, or the same
  no_less : is_lt by_both ≡ false → (d < c) ⊎ ((c ≡ d) × ((u < t) ⊎ (t ≡ u)))
  no_less h = ⊎_elim
      (λ (e : c ≡ d). ⊎_elim
      (λ (f : t ≡ u). inr (e, inr f))
      (⊎_elim (λ (l : t < u). absurd (true≢false (sym (at_same_less e l) ∙ h))) (λ (g : u < t). inr (e, inl g)))
      (cases_order t u))
      (⊎_elim (λ (l : c < d). absurd (true≢false (sym (at_less l) ∙ h))) (λ (g : d < c). inl g))
      (cases_order c d)

-- two that tie are the same in both
tie_is : (c d t u : ℕ) → (not (is_lt (by_both d c u t)) && not (is_lt (by_both c d t u))) ≡ (eqb c d && eqb t u)
tie_is c d t u = ⊎_elim
    (λ (e : c ≡ d). ⊎_elim
    (λ (f : t ≡ u). rw (at_same_same d c u t (sym e) (sym f), at_same_same c d t u e f, eq-eqb c d e, eq-eqb t u f) refl)
    (⊎_elim
    (λ (l : t < u). rw (at_same_greater d c u t (sym e) l, at_same_less c d t u e l, eq-eqb c d e, ne_eqb t u (λ f. absurd (omega (arith, f, l)))) refl)
    (λ (g : u < t). rw (at_same_less d c u t (sym e) g, eq-eqb c d e, ne_eqb t u (λ f. absurd (omega (arith, f, g)))) refl))
    (cases_order t u))
    (⊎_elim
    (λ (l : c < d). rw (at_greater d c u t l, at_less c d t u l, ne_eqb c d (λ e. absurd (omega (arith, e, l)))) refl)
    (λ (g : d < c). rw (at_less d c u t g, ne_eqb c d (λ e. absurd (omega (arith, e, g)))) refl))
    (cases_order c d)

-- pairs that a stable sort leaves are the changes
pub sorted_changes : (before : List Totals) (before_names : List Text) (after : List Totals) (after_names : List Text) (pairs sorted : List Pair)
    → pairs ≡ paired before before_names after after_names → IsPermutation pairs sorted → IsSortedBy pair_lt sorted → IsStableBy pair_lt pairs sorted
    → AreChanges before before_names after after_names sorted
sorted_changes before before_names after after_names pairs sorted is moved up stable = record {
  all = subst (λ (l : List Pair). IsPermutation l sorted) is moved;
  sorted = λ i j a b l ia ib. no_less (chain_of a) (chain_of b) (ticks_of a) (ticks_of b)
      (rw (get_or_from_slice_get sorted i a a ia, get_or_from_slice_get sorted j b a ib) at
      (sorted_far pair_lt (ranks_by pair_total (λ (x : Pair). x)) sorted up i j a (omega arith) (slice_get_within sorted j b ib)));
  as_they_come = λ pair.
      let alike = filter_agree (weighs_as_much pair) (ties pair_lt pair)
      (λ y. sym (tie_is (chain_of pair) (chain_of y) (ticks_of pair) (ticks_of y))) in
      alike sorted ∙ stable pair ∙ ap (filter (ties pair_lt pair)) is ∙ sym (alike (paired before before_names after after_names));
}
