-- Where the outcomes stand that have some values.
use Rattle.std.proofs.Common.{◌≡◌, ◌≢◌, ℕ, List, [], ◌∷◌, ◌++◌, length, cond, refl, sym, ap, subst, ◌∙◌, ⊎_elim, inl, inr, Some, None, ℤ}
use Rattle.std.proofs.Common.{Bool, true, false, true≢false, Ordering, Less, Equal, Greater}
use Rattle.std.specs.Prelude.{MatchOption, Option, slice_get, slice_set}
use Rattle.std.specs.BTreeMap.{BTreeMap}
use Rattle.std.specs.Cmp.Lexicographic.{slice_cmp}
use Rattle.std.specs.Ordering.{int_cmp, is_eq, ordering_then}
use Rattle.std.specs.declared.alloc.Global.{Global}
use Rattle.std.specs.declared.vec.Vec.{Vec}
use Rattle.std.proofs.lemmas.Bool.{cases_Bool, cases_eq}
use Rattle.std.proofs.lemmas.Cmp.{int_cmp_total, lists_total, tied_itself}
use Rattle.std.proofs.lemmas.Map.Lookups.{exact_signed}
use Rattle.std.proofs.lemmas.Option.{slice_get_within}
use Rattle.boc_program.proofs.ChangedItems.{front_item, last_item, set_other}
use Rattle.boc_rules.proofs.Lists.{got_push, got_set, one_got, set_same}
use Rattle.boc_outcomes.specs.declared.tally.Outcome.{Outcome}
use Rattle.boc_outcomes.specs.Tallies.{ArePlaces, NoneHas, StandsAt, kept_place}

-- ---- values that compare as equal are the same

both_equal : (a b : Ordering) → ordering_then a b ≡ Equal → (a ≡ Equal) × (b ≡ Equal)
both_equal Less b e = absurd (let f : Less ≡ Equal = e in cc)
both_equal Equal b e = (refl, e)
both_equal Greater b e = absurd (let f : Greater ≡ Equal = e in cc)

same_values : (v w : List ℤ) → slice_cmp int_cmp v w ≡ Equal → v ≡ w
same_values [] [] e = refl
same_values [] (y ∷ w) e = absurd (let f : Less ≡ Equal = e in cc)
same_values (x ∷ v) [] e = absurd (let f : Greater ≡ Equal = e in cc)
same_values (x ∷ v) (y ∷ w) e =
    let both = both_equal (int_cmp x y) (slice_cmp int_cmp v w) e in
    λ i. exact_signed x y both.0 i ∷ same_values v w both.1 i

equal_from : (o : Ordering) → is_eq o ≡ true → o ≡ Equal
equal_from Less e = absurd (true≢false (sym e))
equal_from Equal e = refl
equal_from Greater e = absurd (true≢false (sym e))

-- whether the map takes these values for the same
abbrev alike : List ℤ → List ℤ → Bool
alike v w = is_eq (slice_cmp int_cmp v w)

alike_same : (v w : List ℤ) → alike v w ≡ true → v ≡ w
alike_same v w e = same_values v w (equal_from (slice_cmp int_cmp v w) e)

same_alike : (v w : List ℤ) → v ≡ w → alike v w ≡ true
same_alike v w e = subst (λ (u : List ℤ). alike v u ≡ true) e (ap is_eq (tied_itself (lists_total int_cmp_total) v))

-- ---- places

still_known : (o : Option ℕ) (P Q : Type 0) (S T : ℕ → Type 0) → (P → Q) → ((n : ℕ) → S n → T n) → MatchOption o P S → MatchOption o Q T
still_known None P Q S T none some h = none h
still_known (Some n) P Q S T none some h = some n h

-- an outcome that has its values from before at its place
module _ (outcomes : List Outcome) (place : ℕ) (old new : Outcome) (there : slice_get outcomes place ≡ Some old)
    (same : new.values.items ≡ old.values.items) where
  none_still : (values : List ℤ) → NoneHas outcomes values → NoneHas (slice_set outcomes place new) values
  none_still values none i x is e = elim (got_set outcomes place i new x is) [
    | inl p ↦ none place old there (sym same ∙ ap (λ (y : Outcome). y.values.items) p.1 ∙ e)
    | inr p ↦ none i x p.1 e
  ]

  stands_still : (values : List ℤ) (n : ℕ) → StandsAt outcomes values n → StandsAt (slice_set outcomes place new) values n
  stands_still values n at = elim (cases_eq n place) [
    | inl e ↦ (
        let one : at.outcome ≡ old = one_got outcomes place at.outcome old (ap (slice_get outcomes) (sym e) ∙ at.there) there in
        record {
          outcome = new;
          there = ap (slice_get (slice_set outcomes place new)) e ∙ set_same outcomes place new old there;
          same = same ∙ ap (λ (y : Outcome). y.values.items) (sym one) ∙ at.same;
        })
    | inr ne ↦ record { outcome = at.outcome; there = set_other outcomes place n new ne ∙ at.there; same = at.same }
  ]

  pub places_counted : (places : BTreeMap (Vec ℤ Global) ℕ) → ArePlaces outcomes places → ArePlaces (slice_set outcomes place new) places
  places_counted places are values = still_known (kept_place places values) (NoneHas outcomes values.items)
      (NoneHas (slice_set outcomes place new) values.items) (StandsAt outcomes values.items) (StandsAt (slice_set outcomes place new) values.items)
      (none_still values.items) (stands_still values.items) (are values)

-- one more outcome, whose place is kept for its values
module _ (outcomes : List Outcome) (o : Outcome) where
  abbrev more : List Outcome
  more = outcomes ++ o ∷ []

  none_more : (values : List ℤ) → o.values.items ≢ values → NoneHas outcomes values → NoneHas more values
  none_more values apart none i x is e = elim (got_push outcomes i o x is) [
    | inl old ↦ none i x old e
    | inr p ↦ apart (ap (λ (y : Outcome). y.values.items) p.1 ∙ e)
  ]

  stands_more : (values : List ℤ) (n : ℕ) → StandsAt outcomes values n → StandsAt more values n
  stands_more values n at = record {
    outcome = at.outcome;
    there = front_item outcomes o n (slice_get_within outcomes n at.outcome at.there) ∙ at.there;
    same = at.same;
  }

  pub places_more : (old new : BTreeMap (Vec ℤ Global) ℕ) (key : Vec ℤ Global) (n : ℕ) → n ≡ length outcomes → key.items ≡ o.values.items
      → ((q : Vec ℤ Global) → kept_place new q ≡ cond (alike key.items q.items) (Some n) (kept_place old q))
      → ArePlaces outcomes old → ArePlaces more new
  places_more old new key n last same now are q =
      subst (λ (k : Option ℕ). MatchOption k (NoneHas more q.items) (StandsAt more q.items)) (sym (now q)) (⊎_elim
      (λ (e : alike key.items q.items ≡ true). rw e (
      let s : StandsAt more q.items n = record {
        outcome = o;
        there = ap (slice_get more) last ∙ last_item outcomes o;
        same = sym same ∙ alike_same key.items q.items e;
      } in s))
      (λ (ne : alike key.items q.items ≡ false). rw ne
      (still_known (kept_place old q) (NoneHas outcomes q.items) (NoneHas more q.items) (StandsAt outcomes q.items) (StandsAt more q.items)
      (none_more q.items (λ e. true≢false (sym (same_alike key.items q.items (same ∙ e)) ∙ ne))) (stands_more q.items) (are q)))
      (cases_Bool (alike key.items q.items)))
