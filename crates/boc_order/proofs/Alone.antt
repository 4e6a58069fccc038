-- Of some rows there is one earliest plan, with one end, and one chain that is picked in it.
use Rattle.std.proofs.Common.{◌≡◌, ℕ, zero, suc, ◌+◌, ◌-◌, ◌/◌, ◌<◌, ◌≤◌, max, List, [], ◌∷◌, length, Option, Some, None, refl, sym, ◌∙◌, ap, subst, inl, inr}
use Rattle.std.proofs.Common.{arith}
use Rattle.std.specs.Prelude.{slice_get}
use Rattle.std.proofs.lemmas.Bool.{cases_lt}
use Rattle.std.proofs.lemmas.List.{ext_get_or}
use Rattle.std.proofs.lemmas.Option.{get_or_from_slice_get, slice_get_past}
use Rattle.boc_runs.specs.declared.rows.Row.{Row}
use Rattle.boc_plans.specs.declared.chain.ChainStep.{ChainStep}
use Rattle.boc_plans.specs.declared.chain.Via.{Via}
use Rattle.boc_plans.specs.declared.chain.Via.TheVariants.{Spawn, Order, Last}
use Rattle.boc_runs.specs.Rows.{parent_of, ticks_of, edited}
use Rattle.boc_runs.specs.Changes.{moved, without}
use Rattle.boc_plans.specs.Plans.{work_of, IsEnd, IsEarliest, HasEnds}
use Rattle.boc_plans.specs.Chains.{LinkVia, IsLink, PickedVia, IsPicked}
use Rattle.boc_plans.specs.Greedy.{IsSpan, IsBound}
use Rattle.boc_plans.specs.Edits.{IsLeastSpan, IsSweep, IsEarlySpan, IsSpawnSweep, IsCownSweep}
use Rattle.boc_runs.proofs.Editing.{one_last}

-- no plan of the earliest starts a row before another
pub one_plan : (rows : List Row) (plan other : List ℕ) → IsEarliest rows plan → IsEarliest rows other → plan ≡ other
one_plan rows plan other e f = ext_get_or 0 plan other (e.keeps.whole ∙ sym f.keeps.whole)
    (λ r h. (let there : r < length rows = omega (arith, h, e.keeps.whole) in omega (arith, e.least other f.keeps r there, f.least plan e.keeps r there)))

pub one_end : (rows : List Row) (plan : List ℕ) (last other : ℕ) → IsEnd rows plan last → IsEnd rows plan other → last ≡ other
one_end rows plan last other e f =
    omega (arith, e.reached.2, f.reached.2, e.none_later f.reached.0 f.reached.1, f.none_later e.reached.0 e.reached.1)

pub one_list_of_ends : (rows : List Row) (plan ends others : List ℕ) → HasEnds rows plan ends → HasEnds rows plan others → ends ≡ others
one_list_of_ends rows plan ends others e f = ext_get_or 0 ends others (e.whole ∙ sym f.whole)
    (λ r h. (let there : r < length rows = omega (arith, h, e.whole) in e.at r there ∙ sym (f.at r there)))

pub one_span : (rows : List Row) (span other : ℕ) → IsSpan rows span → IsSpan rows other → span ≡ other
one_span rows span other s t =
    let same : s.plan ≡ t.plan = one_plan rows s.plan t.plan s.earliest t.earliest in
    one_end rows t.plan span other (subst (λ (plan : List ℕ). IsEnd rows plan span) same s.ends) t.ends

pub one_bound : (rows : List Row) (p bound other : ℕ) → IsBound rows p bound → IsBound rows p other → bound ≡ other
one_bound rows p bound other b c = b.is ∙ ap (λ (span : ℕ). work_of rows / p + span) (one_span rows b.span c.span b.is_span c.is_span) ∙ sym c.is

one_least_span : (rows : List Row) (row span other : ℕ) → IsLeastSpan rows row span → IsLeastSpan rows row other → span ≡ other
one_least_span rows row span other s t =
    let last : s.is_least.last ≡ t.is_least.last = one_last rows (length rows) row _ _ s.is_least.is_last t.is_least.is_last in
    let least : s.least ≡ t.least = s.is_least.is ∙ ap (max 1) last ∙ sym t.is_least.is in
    one_span (edited rows row t.least) span other (subst (λ (ticks : ℕ). IsSpan (edited rows row ticks) span) least s.is_span) t.is_span

pub one_sweep : (rows : List Row) (spans others : List ℕ) → IsSweep rows spans → IsSweep rows others → spans ≡ others
one_sweep rows spans others s t = ext_get_or 0 spans others (s.whole ∙ sym t.whole)
    (λ row h. (let there : row < length rows = omega (arith, h, s.whole) in one_least_span rows row _ _ (s.at row there) (t.at row there)))

one_early_span : (rows : List Row) (row span other : ℕ) → IsEarlySpan rows row span → IsEarlySpan rows row other → span ≡ other
one_early_span rows row span other s t =
    let elder : s.is_least.elder ≡ t.is_least.elder = one_last rows row (parent_of rows row) _ _ s.is_least.is_elder t.is_least.is_elder in
    let least : s.least ≡ t.least = s.is_least.is ∙ ap (λ (k : ℕ). k + 1) elder ∙ sym t.is_least.is in
    one_span (moved rows row t.least) span other (subst (λ (offset : ℕ). IsSpan (moved rows row offset) span) least s.is_span) t.is_span

pub one_spawn_sweep : (rows : List Row) (spans others : List ℕ) → IsSpawnSweep rows spans → IsSpawnSweep rows others → spans ≡ others
one_spawn_sweep rows spans others s t =
    let whole : length spans ≡ length others = omega (arith, s.whole, t.whole) in
    ext_get_or 0 spans others whole (λ place h. one_early_span rows (place + 1) _ _ (s.at place h) (t.at place (omega (arith, h, whole))))

pub one_cown_sweep : (rows : List Row) (count : ℕ) (spans others : List ℕ) → IsCownSweep rows count spans → IsCownSweep rows count others → spans ≡ others
one_cown_sweep rows count spans others s t = ext_get_or 0 spans others (s.whole ∙ sym t.whole)
    (λ cown h. (let below : cown < count = omega (arith, h, s.whole) in one_span (without cown rows) _ _ (s.at cown below) (t.at cown below)))

-- a step is known by its row, its link and its weight
same_step : (s t : ChainStep) → s.row ≡ t.row → s.via ≡ t.via → s.weight ≡ t.weight → s ≡ t
same_step s t row via weight = λ i. record { row = row i; via = via i; weight = weight i }

some_step : (steps : List ChainStep) (k : ℕ) → k < length steps → (s : ChainStep) × (slice_get steps k ≡ Some s)
some_step [] k h = absurd (omega (arith, h))
some_step (s ∷ steps) zero h = (s, refl)
some_step (s ∷ steps) (suc k) h = some_step steps k (omega (arith, h))

-- the same step comes before the end, or before another step, in any chain that is picked
module _ (rows : List Row) (plan : List ℕ) where
  one_last_step : (v u : Via) (a b w x : ℕ) → a < length rows → b < length rows → LinkVia rows a w v None → PickedVia rows plan a v None →
      LinkVia rows b x u None → PickedVia rows plan b u None → (a ≡ b) × (v ≡ u) × (w ≡ x)
  one_last_step Spawn u a b w x h k l p m q = absurd l
  one_last_step Order u a b w x h k l p m q = absurd l
  one_last_step Last Spawn a b w x h k l p m q = absurd m
  one_last_step Last Order a b w x h k l p m q = absurd m
  one_last_step Last Last a b w x h k l p m q =
      let same : a ≡ b = omega (arith, p.1 b k q.0, q.1 a h p.0) in
      (same, refl, l ∙ ap (ticks_of rows) same ∙ sym m)

  one_step_before : (next : ChainStep) (v u : Via) (a b w x : ℕ) → LinkVia rows a w v (Some next) → PickedVia rows plan a v (Some next) →
      LinkVia rows b x u (Some next) → PickedVia rows plan b u (Some next) → (a ≡ b) × (v ≡ u) × (w ≡ x)
  one_step_before next Spawn Spawn a b w x l p m q = (sym l.0.parent ∙ m.0.parent, refl, l.1 ∙ sym m.1)
  one_step_before next Spawn Order a b w x l p m q = absurd (q.0 p)
  one_step_before next Order Spawn a b w x l p m q = absurd (p.0 q)
  one_step_before next Order Order a b w x l p m q =
      let same : a ≡ b = omega (arith, p.2 b q.1, q.2 a p.1) in
      (same, refl, l.1 ∙ ap (ticks_of rows) same ∙ sym m.1)
  one_step_before next Last u a b w x l p m q = absurd l
  one_step_before next Spawn Last a b w x l p m q = absurd m
  one_step_before next Order Last a b w x l p m q = absurd m

  one_step : (next : Option ChainStep) (s t : ChainStep) → IsLink rows s next → PickedVia rows plan s.row s.via next →
      IsLink rows t next → PickedVia rows plan t.row t.via next → s ≡ t
  one_step None s t l p m q =
      let same = one_last_step s.via t.via s.row t.row s.weight t.weight l.0 m.0 l.1 p m.1 q in
      same_step s t same.0 same.1 same.2
  one_step (Some next) s t l p m q =
      let same = one_step_before next s.via t.via s.row t.row s.weight t.weight l.1 p m.1 q in
      same_step s t same.0 same.1 same.2

  -- no step leads to row 0
  none_to_main : (v : Via) (a w : ℕ) (next : ChainStep) → next.row ≡ 0 → LinkVia rows a w v (Some next) → ⊥
  none_to_main Spawn a w next e l = omega (arith, l.0.not_main)
  none_to_main Order a w next e l = omega (arith, l.0.before)
  none_to_main Last a w next e l = l

  -- as many steps before their ends, two chains that are picked have the same step
  same_from_end : (xs ys : List ChainStep) → IsPicked rows plan xs → IsPicked rows plan ys → (n i j : ℕ) → i + n ≡ length xs → j + n ≡ length ys →
      slice_get xs i ≡ slice_get ys j
  same_from_end xs ys p q zero i j e f = slice_get_past xs i (omega (arith, e)) ∙ sym (slice_get_past ys j (omega (arith, f)))
  same_from_end xs ys p q (suc n) i j e f =
      let after : slice_get xs (suc i) ≡ slice_get ys (suc j) = same_from_end xs ys p q n (suc i) (suc j) (omega (arith, e)) (omega (arith, f)) in
      let x = some_step xs i (omega (arith, e)) in
      let y = some_step ys j (omega (arith, f)) in
      let same : x.0 ≡ y.0 = one_step (slice_get xs (suc i)) x.0 y.0 (p.chain.holds i x.0 x.1).1 (p.picked i x.0 x.1)
      (subst (λ (next : Option ChainStep). IsLink rows y.0 next) (sym after) (q.chain.holds j y.0 y.1).1)
      (subst (λ (next : Option ChainStep). PickedVia rows plan y.0.row y.0.via next) (sym after) (q.picked j y.0 y.1)) in
      x.1 ∙ ap (λ (s : ChainStep). Some s) same ∙ sym y.1

  -- the longer of two would have a step that leads to row 0
  no_longer : (xs ys : List ChainStep) → IsPicked rows plan xs → IsPicked rows plan ys → length xs ≤ length ys
  no_longer xs ys p q = elim (cases_lt (length ys) (length xs)) [
    | inr le ↦ le
    | inl lt ↦ (
        let k : ℕ = length xs - suc (length ys) in
        let first = some_step ys 0 q.chain.not_empty in
        let before = some_step xs k (omega (arith, lt)) in
        let after : slice_get xs (suc k) ≡ Some first.0 =
        same_from_end xs ys p q (length ys) (suc k) 0 (omega (arith, lt)) (omega arith) ∙ first.1 in
        absurd (none_to_main before.0.via before.0.row before.0.weight first.0 ((q.chain.holds 0 first.0 first.1).0 refl)
        (subst (λ (next : Option ChainStep). LinkVia rows before.0.row before.0.weight before.0.via next) after (p.chain.holds k before.0 before.1).1.1)))
  ]

  pub one_chain : (xs ys : List ChainStep) → IsPicked rows plan xs → IsPicked rows plan ys → xs ≡ ys
  one_chain xs ys p q =
      let long : length xs ≡ length ys = omega (arith, no_longer xs ys p q, no_longer ys xs q p) in
      let d : ChainStep = (some_step xs 0 p.chain.not_empty).0 in
      ext_get_or d xs ys long (λ i h.
      (let x = some_step xs i h in
      let there : slice_get ys i ≡ Some x.0 = sym (same_from_end xs ys p q (length xs - i) i i (omega (arith, h)) (omega (arith, h, long))) ∙ x.1 in
      get_or_from_slice_get xs i x.0 d x.1 ∙ sym (get_or_from_slice_get ys i x.0 d there)))
