-- A greedy plan has one chain.
use Rattle.std.proofs.Common.{◌≡◌, ℕ, zero, suc, ◌+◌, ◌-◌, ◌<◌, ◌≤◌, List, [], ◌∷◌, length, Option, Some, None, refl, sym, ◌∙◌, ap, subst, inl, inr, arith}
use Rattle.std.specs.Prelude.{slice_get}
use Rattle.std.proofs.lemmas.Bool.{cases_lt}
use Rattle.std.proofs.lemmas.List.{ext_get_or}
use Rattle.std.proofs.lemmas.Option.{get_or_from_slice_get, slice_get_past}
use Rattle.boc_runs.specs.declared.rows.Row.{Row}
use Rattle.boc_runs.specs.Rows.{IsRows, ticks_of}
use Rattle.boc_plans.specs.Plans.{start_of}
use Rattle.boc_plans.specs.Greedy.{IsGreedy}
use Rattle.boc_greedy_chain.specs.declared.chain.GreedyStep.{GreedyStep}
use Rattle.boc_greedy_chain.specs.declared.chain.Tie.{Tie}
use Rattle.boc_greedy_chain.specs.declared.chain.Tie.TheVariants.{Spawn, Order, Worker, Last}
use Rattle.boc_greedy_chain.specs.GreedyChains.{IsGreedyChain, TieSays}
use Rattle.boc_greedy_chain.proofs.Chaining.{tie_starts}
use Rattle.boc_greedy_chain.proofs.Freeing.{main_at_once, one_takes_over}

-- a step is known by its row, its tie and its weight
same_step : (s t : GreedyStep) → s.row ≡ t.row → s.tie ≡ t.tie → s.weight ≡ t.weight → s ≡ t
same_step s t row tie weight = λ i. record { row = row i; tie = tie i; weight = weight i }

some_step : (steps : List GreedyStep) (k : ℕ) → k < length steps → (s : GreedyStep) × (slice_get steps k ≡ Some s)
some_step [] k h = absurd (omega (arith, h))
some_step (s ∷ steps) zero h = (s, refl)
some_step (s ∷ steps) (suc k) h = some_step steps k (omega (arith, h))

module _ (rows : List Row) (hr : IsRows rows) (p : ℕ) (plan workers : List ℕ) (g : IsGreedy rows p plan workers) where
  -- there is one last step
  one_last : (v u : Tie) (a b w x : ℕ) → a < length rows → b < length rows → TieSays rows plan workers a w v None → TieSays rows plan workers b x u None
      → (a ≡ b) × (v ≡ u) × (w ≡ x)
  one_last Spawn u a b w x h k l m = absurd l
  one_last Order u a b w x h k l m = absurd l
  one_last Worker u a b w x h k l m = absurd l
  one_last Last Spawn a b w x h k l m = absurd m
  one_last Last Order a b w x h k l m = absurd m
  one_last Last Worker a b w x h k l m = absurd m
  one_last Last Last a b w x h k l m =
      let same : a ≡ b = omega (arith, l.1 b k m.0, m.1 a h l.0) in
      (same, refl, l.2 ∙ ap (ticks_of rows) same ∙ sym m.2)

  -- no step leads to main
  none_to_main : (v : Tie) (a w : ℕ) (next : GreedyStep) → next.row ≡ 0 → TieSays rows plan workers a w v (Some next) → ⊥
  none_to_main v a w next e t =
      let there : next.row < length rows = omega (arith, e, hr.not_empty) in
      let s = tie_starts rows plan workers hr v a w next there t in
      let zero_there : start_of plan next.row ≡ 0 = ap (start_of plan) e ∙ main_at_once rows hr p plan workers g in
      omega (arith, s.1, s.2, zero_there)

  -- there is one step before another one
  one_before : (next : GreedyStep) → 0 < next.row → next.row < length rows → (v u : Tie) (a b w x : ℕ) → TieSays rows plan workers a w v (Some next)
      → TieSays rows plan workers b x u (Some next) → (a ≡ b) × (v ≡ u) × (w ≡ x)
  one_before next above there Spawn Spawn a b w x l m = (sym l.0.parent ∙ m.0.parent, refl, l.2 ∙ sym m.2)
  one_before next above there Spawn Order a b w x l m = absurd (m.0 l.1)
  one_before next above there Spawn Worker a b w x l m = absurd (m.0.not_spawned l.1)
  one_before next above there Order Spawn a b w x l m = absurd (l.0 m.1)
  one_before next above there Order Order a b w x l m =
      let same : a ≡ b = omega (arith, l.2 b m.1, m.2 a l.1) in
      (same, refl, l.3 ∙ ap (ticks_of rows) same ∙ sym m.3)
  one_before next above there Order Worker a b w x l m = absurd (m.0.none_ends a l.1)
  one_before next above there Worker Spawn a b w x l m = absurd (l.0.not_spawned m.1)
  one_before next above there Worker Order a b w x l m = absurd (l.0.none_ends b m.1)
  one_before next above there Worker Worker a b w x l m =
      let same : a ≡ b = one_takes_over rows hr p plan workers g next.row above there a b l.1 m.1 in
      (same, refl, l.2 ∙ ap (ticks_of rows) same ∙ sym m.2)
  one_before next above there Last u a b w x l m = absurd l
  one_before next above there Spawn Last a b w x l m = absurd m
  one_before next above there Order Last a b w x l m = absurd m
  one_before next above there Worker Last a b w x l m = absurd m

  one_step : (next : Option GreedyStep) → ((n : GreedyStep) → next ≡ Some n → n.row < length rows) → (s t : GreedyStep) → s.row < length rows
      → t.row < length rows → TieSays rows plan workers s.row s.weight s.tie next → TieSays rows plan workers t.row t.weight t.tie next → s ≡ t
  one_step None within s t h k l m =
      let same = one_last s.tie t.tie s.row t.row s.weight t.weight h k l m in
      same_step s t same.0 same.1 same.2
  one_step (Some next) within s t h k l m = elim (cases_lt 0 next.row) [
    | inl above ↦ (
        let same = one_before next above (within next refl) s.tie t.tie s.row t.row s.weight t.weight l m in
        same_step s t same.0 same.1 same.2)
    | inr main ↦ absurd (none_to_main s.tie s.row s.weight next (omega (arith, main)) l)
  ]

  -- as many steps before their ends, two chains have the same step
  same_from_end : (xs ys : List GreedyStep) → IsGreedyChain rows plan workers xs → IsGreedyChain rows plan workers ys → (n i j : ℕ) → i + n ≡ length xs
      → j + n ≡ length ys → slice_get xs i ≡ slice_get ys j
  same_from_end xs ys c d zero i j e f = slice_get_past xs i (omega (arith, e)) ∙ sym (slice_get_past ys j (omega (arith, f)))
  same_from_end xs ys c d (suc n) i j e f =
      let after : slice_get xs (suc i) ≡ slice_get ys (suc j) = same_from_end xs ys c d n (suc i) (suc j) (omega (arith, e)) (omega (arith, f)) in
      let x = some_step xs i (omega (arith, e)) in
      let y = some_step ys j (omega (arith, f)) in
      let same : x.0 ≡ y.0 = one_step (slice_get xs (suc i)) (λ n q. c.there (suc i) n q) x.0 y.0 (c.there i x.0 x.1) (d.there j y.0 y.1) (c.ties i x.0 x.1)
      (subst (λ (next : Option GreedyStep). TieSays rows plan workers y.0.row y.0.weight y.0.tie next) (sym after) (d.ties j y.0 y.1)) in
      x.1 ∙ ap (λ (s : GreedyStep). Some s) same ∙ sym y.1

  -- the longer of two would have a step that leads to main
  no_longer : (xs ys : List GreedyStep) → IsGreedyChain rows plan workers xs → IsGreedyChain rows plan workers ys → length xs ≤ length ys
  no_longer xs ys c d = elim (cases_lt (length ys) (length xs)) [
    | inr le ↦ le
    | inl lt ↦ (
        let k : ℕ = length xs - suc (length ys) in
        let first = some_step ys 0 d.not_empty in
        let before = some_step xs k (omega (arith, lt)) in
        let after : slice_get xs (suc k) ≡ Some first.0 =
        same_from_end xs ys c d (length ys) (suc k) 0 (omega (arith, lt)) (omega arith) ∙ first.1 in
        absurd (none_to_main before.0.tie before.0.row before.0.weight first.0 (d.main first.0 first.1)
        (subst (λ (next : Option GreedyStep). TieSays rows plan workers before.0.row before.0.weight before.0.tie next) after (c.ties k before.0 before.1))))
  ]

  pub one_chain : (xs ys : List GreedyStep) → IsGreedyChain rows plan workers xs → IsGreedyChain rows plan workers ys → xs ≡ ys
  one_chain xs ys c d =
      let long : length xs ≡ length ys = omega (arith, no_longer xs ys c d, no_longer ys xs d c) in
      let e : GreedyStep = (some_step xs 0 c.not_empty).0 in
      ext_get_or e xs ys long (λ i h.
      (let x = some_step xs i h in
      let there : slice_get ys i ≡ Some x.0 = sym (same_from_end xs ys c d (length xs - i) i i (omega (arith, h)) (omega (arith, h, long))) ∙ x.1 in
      get_or_from_slice_get xs i x.0 e x.1 ∙ sym (get_or_from_slice_get ys i x.0 e there)))
