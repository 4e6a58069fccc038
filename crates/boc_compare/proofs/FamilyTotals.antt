-- What is told of each family of cowns.
use Rattle.std.proofs.Common.{◌≡◌, ℕ, ◌+◌, ◌*◌, ◌<◌, ◌≤◌, List, [], ◌∷◌, ◌++◌, length, map, max, take, drop, get_or, cond, Bool, true, false, ◌||◌, None}
use Rattle.std.proofs.Common.{ap, sym, ◌∙◌, arith}
use Rattle.std.specs.List.{list_any}
use Rattle.std.proofs.lemmas.List.{drop_all, drop_more, map-append, take_all, take_more}
use Rattle.std.proofs.lemmas.List.Sums.{sum_by_more}
use Rattle.boc_cowns.specs.declared.hot.HotCown.{HotCown}
use Rattle.boc_why.specs.declared.links.Link.{Link}
use Rattle.boc_compare.specs.declared.totals.Totals.{Totals}
use Rattle.boc_compare.specs.Totalled.{handed_by, hands_any, held_in, most_held, waited_by, waited_in}

max_parts : (a b c : ℕ) → max (max a b) c ≡ max a (max b c)
max_parts a b c = omega arith

max_none : (a : ℕ) → max a 0 ≡ a
max_none a = omega arith

cond_low : (b : Bool) (x : ℕ) → cond b x 0 ≤ x
cond_low true x = omega arith
cond_low false x = omega arith

-- what an index reads where there is no cown
abbrev pub no_cown : HotCown
no_cown = record { cown = 0; rows = 0; wrote = 0; held = 0; from = None; waited = 0; chain = 0; without = 0 }

-- whether any passes a test, where those behind the first n are still to come
module _ (p : ℕ → Bool) (xs : List ℕ) (n : ℕ) (so : list_any p (drop n xs) ≡ list_any p xs) where
  any_next : n < length xs → (p (get_or xs n 0) || list_any p (drop (n + 1) xs)) ≡ list_any p xs
  any_next there = sym (ap (list_any p) (drop_more xs n 0 there)) ∙ so

  pub any_here : n < length xs → p (get_or xs n 0) ≡ true → true ≡ list_any p xs
  any_here there passes = ap (λ (b : Bool). b || list_any p (drop (n + 1) xs)) (sym passes) ∙ any_next there

  pub any_later : n < length xs → p (get_or xs n 0) ≡ false → list_any p (drop (n + 1) xs) ≡ list_any p xs
  any_later there fails = ap (λ (b : Bool). b || list_any p (drop (n + 1) xs)) (sym fails) ∙ any_next there

  pub any_none : length xs ≤ n → false ≡ list_any p xs
  any_none long = sym (ap (list_any p) (drop_all n xs long)) ∙ so

module _ (families : List ℕ) (family : ℕ) where
  module _ (cowns : List HotCown) (n : ℕ) (x : HotCown) (there : n < length cowns) where
    -- one cown more
    pub most_more : (most now : ℕ) → max most (most_held families family (drop n cowns)) ≡ most_held families family cowns
        → now ≡ max most (held_in families family (get_or cowns n x))
        → max now (most_held families family (drop (n + 1) cowns)) ≡ most_held families family cowns
    most_more most now so is =
        ap (λ (m : ℕ). max m (most_held families family (drop (n + 1) cowns))) is
        ∙ max_parts most (held_in families family (get_or cowns n x)) (most_held families family (drop (n + 1) cowns))
        ∙ sym (ap (λ (l : List HotCown). max most (most_held families family l)) (drop_more cowns n x there))
        ∙ so

    pub waited_more : (waited now : ℕ) → waited ≡ waited_by families family (take n cowns) → now ≡ waited + waited_in families family (get_or cowns n x)
        → now ≡ waited_by families family (take (n + 1) cowns)
    waited_more waited now so is = is ∙ ap (λ (w : ℕ). w + waited_in families family (get_or cowns n x)) so
        ∙ sym (sum_by_more (waited_in families family) cowns n x there)

  pub most_all : (cowns : List HotCown) (n most : ℕ) → length cowns ≤ n → max most (most_held families family (drop n cowns)) ≡ most_held families family cowns
      → most ≡ most_held families family cowns
  most_all cowns n most long so = sym (max_none most) ∙ sym (ap (λ (l : List HotCown). max most (most_held families family l)) (drop_all n cowns long)) ∙ so

  pub waited_all : (cowns : List HotCown) (n waited : ℕ) → length cowns ≤ n → waited ≡ waited_by families family (take n cowns)
      → waited ≡ waited_by families family cowns
  waited_all cowns n waited long so = so ∙ ap (waited_by families family) (take_all n cowns long)

  module _ (links : List Link) (weights : List ℕ) (whole : length links ≡ length weights) (n : ℕ) (x : Link) (there : n < length links) where
    handed_next : handed_by families family (drop n links) (drop n weights)
        ≡ cond (hands_any families family (get_or links n x)) (get_or weights n 0) 0 + handed_by families family (drop (n + 1) links) (drop (n + 1) weights)
    handed_next = ap (λ (l : List Link). handed_by families family l (drop n weights)) (drop_more links n x there)
        ∙ ap (handed_by families family (get_or links n x ∷ drop (n + 1) links)) (drop_more weights n 0 (omega (arith, there, whole)))

    pub handed_more : (ticks now : ℕ) → ticks + handed_by families family (drop n links) (drop n weights) ≡ handed_by families family links weights
        → now ≡ ticks + cond (hands_any families family (get_or links n x)) (get_or weights n 0) 0
        → now + handed_by families family (drop (n + 1) links) (drop (n + 1) weights) ≡ handed_by families family links weights
    handed_more ticks now so is = omega (arith, so, is, handed_next)

  pub handed_all : (links : List Link) (weights : List ℕ) (n ticks : ℕ) → length links ≤ n
      → ticks + handed_by families family (drop n links) (drop n weights) ≡ handed_by families family links weights
      → ticks ≡ handed_by families family links weights
  handed_all links weights n ticks long so =
      omega (arith, ap (λ (l : List Link). handed_by families family l (drop n weights)) (drop_all n links long), so)

-- what was added is no more than what there is
pub low_more : (b : Bool) (total more now n top : ℕ) → total ≤ n * top → more ≤ top → now ≡ total + cond b more 0 → now ≤ (n + 1) * top
low_more b total more now n top low small is =
    let parts : (n + 1) * top ≡ n * top + top = omega arith in
    omega (arith, cond_low b more, low, small, is, parts)

-- one family more
pub keys_more : (list : List Totals) (own : Totals) (keys : List ℕ) (n : ℕ) → n < length keys
    → map (λ (own : Totals). own.key) list ≡ take n keys → own.key ≡ get_or keys n 0 → map (λ (own : Totals). own.key) (list ++ own ∷ []) ≡ take (n + 1) keys
keys_more list own keys n there so is =
    map-append (λ (own : Totals). own.key) list (own ∷ []) ∙ ap (λ (l : List ℕ). l ++ own.key ∷ []) so
    ∙ ap (λ (k : ℕ). take n keys ++ k ∷ []) is ∙ sym (take_more keys n 0 there)
