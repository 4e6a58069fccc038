-- The shares of a chain add up to its weight, and there is one list of them.
use Rattle.std.proofs.Common.{◌≡◌, ◌≢◌, ℕ, ◌+◌, ◌<◌, List, [], ◌∷◌, length, arith, sym, ap, subst, ◌∙◌, ⊎_elim}
use Rattle.std.proofs.Common.{refl, cond, eqb, true, false}
use Rattle.std.specs.List.{Contains, sum_by}
use Rattle.std.proofs.lemmas.Bool.{ne_eqb}
use Rattle.std.proofs.lemmas.Bool.Decides.{eqb_tells}
use Rattle.std.proofs.lemmas.List.Sums.{sum_by-cons}
use Rattle.boc_plans.specs.declared.chain.ChainStep.{ChainStep}
use Rattle.boc_plans.specs.Chains.{weight_of}
use Rattle.boc_why.specs.declared.shares.Share.{Share}
use Rattle.boc_why.specs.Shares.{ticks_at, steps_at, weights_of, IsShare, StandsBefore, AreShares}
use Rattle.boc_order.proofs.Places.{contains_from_place, place_from_contains}
use Rattle.boc_order.proofs.Ranked.{Ranked, ranked_from_places, same_ranked, contains_first, contains_more, contains_cases}

stands_once : (a b : Share) → StandsBefore a b → StandsBefore b a → ⊥
stands_once a b h g = ⊎_elim
    (λ (x : b.ticks < a.ticks). ⊎_elim (λ (y : a.ticks < b.ticks). omega arith) (λ (y : (b.ticks ≡ a.ticks) × (b.key < a.key)). omega arith) g)
    (λ (x : (a.ticks ≡ b.ticks) × (a.key < b.key)).
    ⊎_elim (λ (y : a.ticks < b.ticks). omega arith) (λ (y : (b.ticks ≡ a.ticks) × (b.key < a.key)). omega arith) g)
    h

abbrev made : ℕ → ℕ → ℕ → Share
made key ticks steps = record { key = key; ticks = ticks; steps = steps }

-- of a key there is one share
one_share : (keys weights : List ℕ) (a b : Share) → IsShare keys weights a → IsShare keys weights b → a.key ≡ b.key → a ≡ b
one_share keys weights a b ha hb e =
    ap (λ (k : ℕ). made k a.ticks a.steps) e
    ∙ (ap (λ (t : ℕ). made b.key t a.steps) (ha.ticks ∙ (ap (λ (k : ℕ). ticks_at k keys weights) e ∙ sym hb.ticks))
    ∙ ap (λ (n : ℕ). made b.key b.ticks n) (ha.steps ∙ (ap (λ (k : ℕ). steps_at k keys) e ∙ sym hb.steps)))

module _ (keys weights : List ℕ) where
  -- what one list has another has
  contains_same : (xs ys : List Share) → AreShares keys weights xs → AreShares keys weights ys → (s : Share) → Contains xs s → Contains ys s
  contains_same xs ys hx hy s stands =
      let at = place_from_contains xs s stands in
      let here = hx.each at.0 s at.1 in
      let other = hy.all s.key here.there in
      subst (Contains ys) (one_share keys weights other.1 s (hy.each other.0 other.1 other.2) here other.3) (contains_from_place ys other.0 other.1 other.2)

  pub one_list : (xs ys : List Share) → AreShares keys weights xs → AreShares keys weights ys → xs ≡ ys
  one_list xs ys hx hy = same_ranked StandsBefore stands_once xs ys
      (ranked_from_places StandsBefore xs hx.sorted) (ranked_from_places StandsBefore ys hy.sorted)
      (contains_same xs ys hx hy) (contains_same ys xs hy hx)

-- sums over shares
sum_same : (f g : Share → ℕ) (xs : List Share) → ((s : Share) → Contains xs s → f s ≡ g s) → sum_by f xs ≡ sum_by g xs
sum_same f g [] same = refl
sum_same f g (x ∷ xs) same = omega (
  arith,
  sum_by-cons f x xs,
  sum_by-cons g x xs,
  same x (contains_first x xs),
  sum_same f g xs (λ s h. same s (contains_more x xs s h)),
)

sum_both : (f g : Share → ℕ) (xs : List Share) → sum_by (λ s. f s + g s) xs ≡ sum_by f xs + sum_by g xs
sum_both f g [] = omega arith
sum_both f g (x ∷ xs) = omega (arith, sum_by-cons (λ s. f s + g s) x xs, sum_by-cons f x xs, sum_by-cons g x xs, sum_both f g xs)

sum_none : (xs : List Share) → sum_by (λ s. 0) xs ≡ 0
sum_none [] = refl
sum_none (x ∷ xs) = omega (arith, sum_by-cons (λ s. 0) x xs, sum_none xs)

abbrev HasOtherKey : Share → Share → Type 0
HasOtherKey a b = a.key ≢ b.key

-- a step's weight counts once
sum_one : (key weight : ℕ) (xs : List Share) → Ranked HasOtherKey xs → (s : Share) → Contains xs s → s.key ≡ key
    → sum_by (λ x. cond (eqb key x.key) weight 0) xs ≡ weight
sum_one key weight [] apart s stands e = absurd (omega (arith, stands.1))
sum_one key weight (x ∷ xs) apart s stands e =
    let f : Share → ℕ = λ y. cond (eqb key y.key) weight 0 in
    ⊎_elim
    (λ (same : (eqb key x.key ≡ true) × (key ≡ x.key)).
    let here : f x ≡ weight = rw same.0 refl in
    let none : sum_by f xs ≡ sum_by (λ y. 0) xs = sum_same f (λ y. 0) xs (λ y h. rw (ne_eqb key y.key (λ e. apart.0 y h (sym same.1 ∙ e))) refl) in
    omega (arith, sum_by-cons f x xs, here, none, sum_none xs))
    (λ (other : (eqb key x.key ≡ false) × (key ≢ x.key)).
    let here : f x ≡ 0 = rw other.0 refl in
    let later : Contains xs s = ⊎_elim (λ (y : x ≡ s). absurd (other.1 (sym (ap (λ (z : Share). z.key) y ∙ e)))) (λ k. k) (contains_cases x xs s stands) in
    omega (arith, sum_by-cons f x xs, here, sum_one key weight xs apart.1 s later e))
    (eqb_tells key x.key)

ticks_add_up : (xs : List Share) → Ranked HasOtherKey xs → (keys : List ℕ) (chain : List ChainStep) → length keys ≡ length chain
    → ((key : ℕ) → Contains keys key → (s : Share) × Contains xs s × (s.key ≡ key)) → sum_by (λ s. ticks_at s.key keys (weights_of chain)) xs ≡ weight_of chain
ticks_add_up xs apart [] [] e all = sum_none xs
ticks_add_up xs apart [] (s ∷ chain) e all = absurd (omega (arith, e))
ticks_add_up xs apart (k ∷ keys) [] e all = absurd (omega (arith, e))
ticks_add_up xs apart (k ∷ keys) (s ∷ chain) e all =
    let mine = all k (contains_first k keys) in
    let here = sum_one k s.weight xs apart mine.0 mine.1 mine.2 in
    let rest = ticks_add_up xs apart keys chain (omega (arith, e)) (λ key h. all key (contains_more k keys key h)) in
    omega (
      arith,
      sum_both (λ x. cond (eqb k x.key) s.weight 0) (λ x. ticks_at x.key keys (weights_of chain)) xs,
      here,
      rest,
      sum_by-cons (λ (c : ChainStep). c.weight) s chain,
    )

pub add_up : (keys : List ℕ) (chain : List ChainStep) (shares : List Share) → AreShares keys (weights_of chain) shares → length keys ≡ length chain
    → sum_by (λ s. s.ticks) shares ≡ weight_of chain
add_up keys chain shares are whole =
    let apart : Ranked HasOtherKey shares = ranked_from_places HasOtherKey shares (λ i j a b l ia ib e.
    let same : a ≡ b = one_share keys (weights_of chain) a b (are.each i a ia) (are.each j b ib) e in
    let twice : StandsBefore a a = subst (StandsBefore a) (sym same) (are.sorted i j a b l ia ib) in
    stands_once a a twice twice) in
    sum_same (λ s. s.ticks) (λ s. ticks_at s.key keys (weights_of chain)) shares
    (λ s h. let at = place_from_contains shares s h in (are.each at.0 s at.1).ticks)
    ∙ ticks_add_up shares apart keys chain whole (λ key h. let mine = are.all key h in (mine.1, contains_from_place shares mine.0 mine.1 mine.2, mine.3))
