-- The first places of numbers, found by what was seen before.
use Rattle.std.proofs.Common.{◌≡◌, ◌≢◌, ℕ, ◌+◌, ◌<◌, ◌≤◌, List, [], ◌∷◌, ◌++◌, length, arith, sym, ap, subst, ◌∙◌}
use Rattle.std.proofs.Common.{⊎_elim, refl, Option, Some, None, cond, eqb, true, false}
use Rattle.std.specs.Prelude.{slice_index, MatchOption}
use Rattle.std.specs.Option.{unwrap_or}
use Rattle.std.proofs.lemmas.Bool.{cases_lt}
use Rattle.std.proofs.lemmas.Bool.Decides.{eqb_tells}
use Rattle.std.proofs.lemmas.List.{length_push, get_or_push, get_or_append_left}
use Rattle.boc_why.specs.LinkCodes.{IsFirstAt, AreFirstPlaces}

-- the number stands at none of the first n places
abbrev pub StandsNowhere : List ℕ → ℕ → ℕ → Type 0
StandsNowhere codes n code = (j : ℕ) → j < n → slice_index codes j ≢ code

-- of each number that stands at one of the first n places the first is known
abbrev pub KnowsFirsts : List ℕ → ℕ → (ℕ → Option ℕ) → Type 0
KnowsFirsts codes n known = (code : ℕ) → MatchOption (known code) (StandsNowhere codes n code) (IsFirstAt codes code)

-- the first places of the first n numbers
pub record HasPlaces (codes : List ℕ) (n : ℕ) (known : ℕ → Option ℕ) (firsts : List ℕ) : Type 0 where
  pub many : length firsts ≡ n
  pub at : (k : ℕ) → k < n → IsFirstAt codes (slice_index codes k) (slice_index firsts k)
  pub knows : KnowsFirsts codes n known

module _ (codes : List ℕ) (n : ℕ) (there : n < length codes) where
  -- the next number is new, or stands first where it is known to
  first_is : (o : Option ℕ) → MatchOption o (StandsNowhere codes n (slice_index codes n)) (IsFirstAt codes (slice_index codes n))
      → IsFirstAt codes (slice_index codes n) (unwrap_or o n)
  first_is None none = record { there = there; same = refl; none_before = none }
  first_is (Some first) known = known

  -- what is known of the other numbers stays
  others_stay : (code : ℕ) → code ≢ slice_index codes n → (o : Option ℕ) → MatchOption o (StandsNowhere codes n code) (IsFirstAt codes code)
      → MatchOption o (StandsNowhere codes (n + 1) code) (IsFirstAt codes code)
  others_stay code apart None none = λ j h e. ⊎_elim (λ (l : j < n). none j l e)
      (λ (g : n ≤ j). apart (sym e ∙ ap (slice_index codes) (omega arith))) (cases_lt j n)
  others_stay code apart (Some first) known = known

  pub places_more : (known new : ℕ → Option ℕ) (firsts : List ℕ) (first : ℕ) → HasPlaces codes n known firsts
      → first ≡ unwrap_or (known (slice_index codes n)) n
      → ((q : ℕ) → new q ≡ cond (eqb q (slice_index codes n)) (Some first) (known q)) → HasPlaces codes (n + 1) new (firsts ++ first ∷ [])
  places_more known new firsts first has is now =
      let code : ℕ = slice_index codes n in
      let fresh : IsFirstAt codes code first = subst (IsFirstAt codes code) (sym is) (first_is (known code) (has.knows code)) in
      record {
        many = omega (arith, has.many, length_push firsts first);
        at = λ k l. ⊎_elim
            (λ (b : k < n). subst (IsFirstAt codes (slice_index codes k))
            (sym (get_or_append_left firsts (first ∷ []) 0 k (omega (arith, has.many)))) (has.at k b))
            (λ (g : n ≤ k). let e : n ≡ k = omega (arith, l) in
            subst (λ (m : ℕ). IsFirstAt codes (slice_index codes m) (slice_index (firsts ++ first ∷ []) m)) e
            (subst (IsFirstAt codes code) (sym (get_or_push firsts first 0 n has.many)) fresh))
            (cases_lt k n);
        knows = λ q. subst (λ (o : Option ℕ). MatchOption o (StandsNowhere codes (n + 1) q) (IsFirstAt codes q)) (sym (now q)) (⊎_elim
            (λ (same : (eqb q code ≡ true) × (q ≡ code)). rw same.0 (subst (λ (x : ℕ). IsFirstAt codes x first) (sym same.1) fresh))
            (λ (apart : (eqb q code ≡ false) × (q ≢ code)). rw apart.0 (others_stay q apart.1 (known q) (has.knows q)))
            (eqb_tells q code));
      }

pub places_all : (codes : List ℕ) (n : ℕ) (known : ℕ → Option ℕ) (firsts : List ℕ) → length codes ≤ n → n ≤ length codes → HasPlaces codes n known firsts
    → AreFirstPlaces codes firsts
places_all codes n known firsts h g has = record { whole = omega (arith, has.many); at = λ k l. has.at k (omega (arith, l)) }
