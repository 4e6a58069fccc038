-- All spans have one order with their places.
use Rattle.std.proofs.Common.{suc, ◌≡◌, ◌∙◌, ℕ, ◌<◌, ⊎_elim, Bool, true, false, List, [], ◌∷◌, ◌++◌, length, map, ap, ap₂, arith, eqb, refl, subst, sym}
use Rattle.std.proofs.Common.{Some}
use Rattle.std.specs.Prelude.{slice_get, slice_index}
use Rattle.std.specs.List.{Contains, IsDistinct, list_any}
use Rattle.std.proofs.lemmas.Bool.{ne_eqb}
use Rattle.std.proofs.lemmas.Bool.Decides.{eqb_tells}
use Rattle.std.proofs.lemmas.Cmp.{nat_eq_equiv}
use Rattle.std.proofs.lemmas.List.{get_or_default, length_push}
use Rattle.std.proofs.lemmas.List.Elements.{Contains-push_cases}
use Rattle.std.proofs.lemmas.Map.Keys.{IsDistinct-from_apart, IsDistinct-push}
use Rattle.std.proofs.lemmas.Map.Steps.{length-le_from_distinct_below}
use Rattle.std.proofs.lemmas.Map.Views.{Contains-from_any}
use Rattle.std.proofs.lemmas.Option.{get_or_from_slice_get, slice_get_within}
use Rattle.boc_why.specs.declared.ranking.Placed.{Placed}
use Rattle.boc_why.specs.Ranking.{AreRanked, IsRanking, RanksBefore}
use Rattle.boc_order.proofs.Ranked.{Ranked, ranked_from_places, same_ranked}

-- ---- the order of the spans

module _ (spans : List ℕ) where
  ranks_once : (i j : ℕ) → RanksBefore spans i j → RanksBefore spans j i → ⊥
  ranks_once i j h g = ⊎_elim
      (λ (x : slice_index spans i < slice_index spans j). ⊎_elim
      (λ (y : slice_index spans j < slice_index spans i). omega arith)
      (λ (y : (slice_index spans j ≡ slice_index spans i) × (j < i)). omega arith) g)
      (λ (x : (slice_index spans i ≡ slice_index spans j) × (i < j)). ⊎_elim
      (λ (y : slice_index spans j < slice_index spans i). omega arith)
      (λ (y : (slice_index spans j ≡ slice_index spans i) × (j < i)). omega arith) g)
      h

  -- no place stands twice in an order
  places_apart : (places : List ℕ) → IsRanking spans places → IsDistinct eqb places
  places_apart places ranking = IsDistinct-from_apart eqb places (λ i j d l h.
      let hi : i < length places = omega (arith, l, h) in
      rw (get_or_default places i d 0 hi, get_or_default places j d 0 h)
      (ne_eqb (slice_index places i) (slice_index places j) (λ e.
      let twice : RanksBefore spans (slice_index places i) (slice_index places i) =
      subst (RanksBefore spans (slice_index places i)) (sym e) (ranking.sorted i j l h) in
      ranks_once (slice_index places i) (slice_index places i) twice twice)))

  place_below : (places : List ℕ) → IsRanking spans places → (place : ℕ) → Contains places place → place < length spans
  place_below places ranking place stands = subst (λ (p : ℕ). p < length spans)
      (get_or_default places stands.0 0 place stands.1 ∙ stands.2) (ranking.below stands.0 stands.1)

  same_number : (x y : ℕ) → eqb x y ≡ true → x ≡ y
  same_number x y e = grind (arith, eqb_tells x y, e)

  -- so each place of a span stands in it, since there are as many
  all_places : (places : List ℕ) → IsRanking spans places → (place : ℕ) → place < length spans → Contains places place
  all_places places ranking place h = go (list_any (eqb place) places) refl
    where
      go : (b : Bool) → list_any (eqb place) places ≡ b → Contains places place
      go true found = Contains-from_any same_number place places found
      go false none =
          let below : (q : ℕ) → list_any (eqb q) (places ++ place ∷ []) ≡ true → q < length spans =
          λ q found. ⊎_elim
          (λ (old : Contains places q). place_below places ranking q old)
          (λ (new : place ≡ q). subst (λ (k : ℕ). k < length spans) new h)
          (Contains-push_cases places place q (Contains-from_any same_number q (places ++ place ∷ []) found)) in
          absurd (omega (
            arith,
            length-le_from_distinct_below (places ++ place ∷ []) (length spans)
                (IsDistinct-push nat_eq_equiv places place (places_apart places ranking) none) below,
            length_push places place,
            ranking.whole,
          ))

  ranked : (places : List ℕ) → IsRanking spans places → Ranked (RanksBefore spans) places
  ranked places ranking = ranked_from_places (RanksBefore spans) places (λ i j x y l ix jy.
      rw (get_or_from_slice_get places i x 0 ix, get_or_from_slice_get places j y 0 jy) at (ranking.sorted i j l (slice_get_within places j y jy)))

  pub one_ranking : (places others : List ℕ) → IsRanking spans places → IsRanking spans others → places ≡ others
  one_ranking places others a b = same_ranked (RanksBefore spans) ranks_once places others (ranked places a) (ranked others b)
      (λ place stands. all_places others b place (place_below places a place stands))
      (λ place stands. all_places places a place (place_below others b place stands))

-- ---- spans with their places

-- spans at the same places are the same
same_placed : (spans : List ℕ) (xs ys : List Placed) → map (λ p. p.place) xs ≡ map (λ p. p.place) ys
    → ((i : ℕ) (p : Placed) → slice_get xs i ≡ Some p → p.span ≡ slice_index spans p.place)
    → ((i : ℕ) (p : Placed) → slice_get ys i ≡ Some p → p.span ≡ slice_index spans p.place) → xs ≡ ys
same_placed spans [] [] same a b = refl
same_placed spans [] (y ∷ ys) same a b = cc
same_placed spans (x ∷ xs) [] same a b = cc
same_placed spans (x ∷ xs) (y ∷ ys) same a b =
    let place : x.place ≡ y.place = cc in
    let rest : map (λ (p : Placed). p.place) xs ≡ map (λ (p : Placed). p.place) ys = cc in
    let span : x.span ≡ y.span = a 0 x refl ∙ ap (slice_index spans) place ∙ sym (b 0 y refl) in
    let first : x ≡ y = λ i. record { span = span i; place = place i } in
    ap₂ ◌∷◌ first (same_placed spans xs ys rest (λ i p h. a (suc i) p h) (λ i p h. b (suc i) p h))

-- and all spans have one order with their places
pub one_ranked : (spans : List ℕ) (placed others : List Placed) → AreRanked spans placed → AreRanked spans others → placed ≡ others
one_ranked spans placed others a b = same_placed spans placed others (one_ranking spans _ _ a.ranking b.ranking) a.each b.each
