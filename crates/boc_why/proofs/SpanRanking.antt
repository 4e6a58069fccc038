-- Spans with their places in order.
use Rattle.std.proofs.Common.{◌≡◌, ◌≢◌, ℕ, ◌<◌, ◌⊎◌, List, length, get_or, arith, sym, ap, ◌∙◌, ⊎_elim, inl, inr}
use Rattle.std.proofs.Common.{map, false, true≢false, is_lt, Ordering, Less, Equal}
use Rattle.std.specs.Prelude.{All, slice_index}
use Rattle.std.specs.Cmp.{IsTotalOrder, nat_cmp_is}
use Rattle.std.specs.List.{Contains}
use Rattle.std.specs.List.Sorted.{IsPermutation, IsSortedBy}
use Rattle.std.specs.Ordering.{nat_cmp, ordering_then, on}
use Rattle.std.proofs.lemmas.Bool.{cases_order}
use Rattle.std.proofs.lemmas.Cmp.{nat_cmp_total, then_total, on_total}
use Rattle.std.proofs.lemmas.List.{get_or-map, get_or_default, length-map}
use Rattle.std.proofs.lemmas.List.Elements.{Contains-get_or}
use Rattle.std.proofs.lemmas.List.Sorted.{ranks_by, sorted_far, IsPermutation-sym, length_permutation, Contains-permutation}
use Rattle.std.proofs.lemmas.Option.{get_or_from_slice_get, slice_get-get_or, slice_get_within}
use Rattle.boc_why.specs.declared.ranking.Placed.{Placed}
use Rattle.boc_why.specs.Ranking.{ArePlaced, AreRanked}
use Rattle.boc_order.proofs.HeaviestFirst.{HaveOne, one_moved}
use Rattle.boc_order.proofs.Places.{contains_from_place, place_from_contains}

-- what an index reads where there is no span
abbrev pub no_span : Placed
no_span = record { span = 0; place = 0 }

abbrev places_of : List Placed → List ℕ
places_of placed = map (λ (p : Placed). p.place) placed

place_at : (placed : List Placed) (i d : ℕ) → i < length placed → get_or (places_of placed) i d ≡ (get_or placed i no_span).place
place_at placed i d h = get_or-map (λ (p : Placed). p.place) placed i no_span d h

-- ---- in order

-- how the sort compares two spans
abbrev pub placed_cmp : Placed → Placed → Ordering
placed_cmp a b = ordering_then (nat_cmp a.span b.span) (nat_cmp a.place b.place)

placed_total : IsTotalOrder placed_cmp
placed_total = then_total {R = on (λ (p : Placed). p.span) nat_cmp} {S = on (λ (p : Placed). p.place) nat_cmp}
    (on_total (λ (p : Placed). p.span) nat_cmp_total) (on_total (λ (p : Placed). p.place) nat_cmp_total)

-- what doesn't compare as less, and has another place, comes behind
comes_first : (a b : Placed) → is_lt (placed_cmp b a) ≡ false → a.place ≢ b.place → (a.span < b.span) ⊎ ((a.span ≡ b.span) × (a.place < b.place))
comes_first a b h apart = ⊎_elim
    (λ (e : a.span ≡ b.span). ⊎_elim
    (λ (same : a.place ≡ b.place). absurd (apart same))
    (⊎_elim (λ (l : a.place < b.place). inr (e, l))
    (λ (g : b.place < a.place). absurd (true≢false (rw (sym (nat_cmp_is b.span a.span Equal (sym e)), sym (nat_cmp_is b.place a.place Less g)) at h))))
    (cases_order a.place b.place))
    (⊎_elim (λ (l : a.span < b.span). inl l)
    (λ (g : b.span < a.span). absurd (true≢false (rw (sym (nat_cmp_is b.span a.span Less g)) at h))))
    (cases_order a.span b.span)

module _ (spans : List ℕ) where
  -- the places are all different
  places_apart : (xs : List Placed) → ArePlaced spans xs → HaveOne (λ (p : Placed). p.place) xs
  places_apart xs are i j a b l ia ib e = omega (arith, l, e, (are.at i a ia).0, (are.at j b ib).0)

  -- each of them is a span at its place
  is_placed : (xs : List Placed) → ArePlaced spans xs → (p : Placed) → Contains xs p → (p.span ≡ slice_index spans p.place) × (p.place < length spans)
  is_placed xs are p stands =
      let old = place_from_contains xs p stands in
      let is = are.at old.0 p old.1 in
      let read : slice_index spans old.0 ≡ p.span = get_or_from_slice_get spans old.0 p.span 0 is.1 in
      let there : old.0 < length spans = slice_get_within spans old.0 p.span is.1 in
      (sym read ∙ ap (slice_index spans) (sym is.0), omega (arith, there, is.0))

  -- spans that a sort has moved, and that it leaves in their order
  pub spans_sorted : (xs ys : List Placed) → ArePlaced spans xs → IsPermutation xs ys → IsSortedBy (λ a b. is_lt (placed_cmp a b)) ys → AreRanked spans ys
  spans_sorted xs ys are moved up =
      let many : length (places_of ys) ≡ length ys = length-map ys (λ (p : Placed). p.place) in
      let own : (p : Placed) → Contains ys p → (p.span ≡ slice_index spans p.place) × (p.place < length spans)
      = λ p stands. is_placed xs are p (Contains-permutation ys xs p (IsPermutation-sym xs ys moved) stands) in
      let one : HaveOne (λ (p : Placed). p.place) ys = one_moved (λ (p : Placed). p.place) xs ys moved (places_apart xs are) in
      record {
        ranking = record {
          whole = omega (arith, many, length_permutation xs ys moved, are.whole);
          below = λ i h.
              let hi : i < length ys = omega (arith, h, many) in
              rw (place_at ys i 0 hi) (own (get_or ys i no_span) (Contains-get_or ys i no_span hi)).1;
          sorted = λ i j l h.
              let hj : j < length ys = omega (arith, h, many) in
              let hi : i < length ys = omega arith in
              let a : Placed = get_or ys i no_span in
              let b : Placed = get_or ys j no_span in
              let other : a.place ≢ b.place = one i j a b l (slice_get-get_or ys i no_span hi) (slice_get-get_or ys j no_span hj) in
              let first = comes_first a b
              (sorted_far (λ x y. is_lt (placed_cmp x y)) (ranks_by placed_total (λ (p : Placed). p)) ys up i j no_span (omega arith) hj) other in
              rw (place_at ys i 0 hi, place_at ys j 0 hj, ← (own a (Contains-get_or ys i no_span hi)).0, ← (own b (Contains-get_or ys j no_span hj)).0) first;
        };
        each = λ i p is. (own p (contains_from_place ys i p is)).0;
      }

  -- the places are those of spans
  pub places_below : (placed : List Placed) (n : ℕ) → AreRanked spans placed → length spans ≡ n → All (λ p. p.place < n) placed
  places_below placed n ranked whole = λ k d h.
      let below = ranked.ranking.below k (omega (arith, h, length-map placed (λ (p : Placed). p.place))) in
      rw (← whole, get_or_default placed k d no_span h) (rw (place_at placed k 0 h) at below)
