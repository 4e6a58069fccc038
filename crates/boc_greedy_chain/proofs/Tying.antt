-- What ties a row of a greedy plan to the one that the search finds for it.
use Rattle.std.proofs.Common.{◌≡◌, ◌≢◌, ℕ, ◌+◌, ◌<◌, ◌≤◌, List, length, Some, None, sym, ◌∙◌, ap, subst, inl, inr, arith}
use Rattle.std.specs.Prelude.{slice_index}
use Rattle.std.specs.List.{Contains}
use Rattle.boc_runs.specs.declared.rows.Row.{Row}
use Rattle.boc_runs.specs.Rows.{IsRows, parent_of, offset_of, ticks_of}
use Rattle.boc_plans.specs.Plans.{HasEnds, end_of, start_of}
use Rattle.boc_plans.specs.Greedy.{IsGreedy}
use Rattle.boc_plans.specs.Chains.{IsOrderTight, IsSpawnTight}
use Rattle.boc_order.specs.Waits.{HasWaits}
use Rattle.boc_order.proofs.Near.{near_complete, near_ordered}
use Rattle.boc_greedy_chain.specs.declared.chain.GreedyStep.{GreedyStep}
use Rattle.boc_greedy_chain.specs.declared.chain.Tie.{Tie}
use Rattle.boc_greedy_chain.specs.declared.chain.Tie.TheVariants.{Order, Worker}
use Rattle.boc_greedy_chain.specs.GreedyChains.{IsLeastEnding, IsPredecessor, IsReadySooner, IsTiedTo, TakesOver, TieSays}
use Rattle.boc_greedy_chain.proofs.Freeing.{before_is_taken_over, freed_by, keeps, none_has_not}

module _ (rows : List Row) (hr : IsRows rows) (p : ℕ) (plan workers : List ℕ) (g : IsGreedy rows p plan workers) (b : ℕ) (above : 0 < b)
    (there : b < length rows) where
  module _ (waits ends : List ℕ) (has : HasWaits rows b waits) (over : HasEnds rows plan ends)
      (late : start_of plan (parent_of rows b) + offset_of rows b ≢ start_of plan b) where
    not_spawned : IsSpawnTight rows plan b → ⊥
    not_spawned (a, child, tight) = late (omega (arith, ap (start_of plan) child.parent, tight))

    -- a row that ends then is one of those that it waits for
    is_waited_for : (a : ℕ) → IsOrderTight rows plan a b → Contains waits a
    is_waited_for a t = elim (near_complete rows a b there t.0) [
      | inl near ↦ has.complete a near
      | inr (c, first, then) ↦ (
          let c_there : c < length rows = omega (arith, then.before, there) in
          absurd (omega (
            arith,
            (keeps rows hr p plan workers g).in_order a c c_there first,
            (keeps rows hr p plan workers g).in_order c b there then,
            hr.ticks_low c c_there,
            t.1,
          )))
    ]

    ends_at : (a : ℕ) → Contains waits a → slice_index ends a ≡ end_of rows plan a
    ends_at a m = over.at a (omega (arith, (near_ordered rows a b (has.sound a m)).before, there))

    -- the step of the lowest of these that ends when it starts
    pub tied_by_order : (s : GreedyStep) (a : ℕ) → IsLeastEnding waits ends (start_of plan b) (Some a) → s.row ≡ a → s.tie ≡ Order → s.weight ≡ ticks_of rows a
        → IsTiedTo rows plan workers s b
    tied_by_order s a low row tie weight next e =
        let tight : IsOrderTight rows plan s.row b = subst (λ (x : ℕ). IsOrderTight rows plan x b) (sym row)
        (near_ordered rows a b (has.sound a low.0), sym (ends_at a low.0) ∙ low.1) in
        let lowest : (other : ℕ) → IsOrderTight rows plan other b → s.row ≤ other = λ other t.
        (let m : Contains waits other = is_waited_for other t in omega (arith, low.2 other m (ends_at other m ∙ t.1), row)) in
        subst (λ (x : Tie). TieSays rows plan workers s.row s.weight x (Some next)) (sym tie)
        (subst (λ (r : ℕ). (IsSpawnTight rows plan r → ⊥) × IsOrderTight rows plan s.row r × ((other : ℕ) → IsOrderTight rows plan other r → s.row ≤ other)
        × (s.weight ≡ ticks_of rows s.row)) (sym e)
        (not_spawned, tight, lowest, weight ∙ ap (ticks_of rows) (sym row)))

    ready_sooner : IsLeastEnding waits ends (start_of plan b) None → IsReadySooner rows plan b
    ready_sooner none = record {
      not_spawned = not_spawned;
      none_ends = λ a t. (let m : Contains waits a = is_waited_for a t in none a m (ends_at a m ∙ t.1));
    }

    -- the step of the row that has its worker before it
    pub tied_by_worker : (s : GreedyStep) (a : ℕ) → IsLeastEnding waits ends (start_of plan b) None → IsPredecessor plan workers b (Some a) → s.row ≡ a
        → s.tie ≡ Worker → s.weight ≡ ticks_of rows a → IsTiedTo rows plan workers s b
    tied_by_worker s a none before row tie weight next e =
        let (c, takes) = freed_by rows hr p plan workers g b above there (ready_sooner none) in
        let same : a ≡ c = before_is_taken_over rows hr p plan workers g b above there c a takes before in
        let own : TakesOver rows plan workers s.row b = subst (λ (x : ℕ). TakesOver rows plan workers x b) (sym (row ∙ same)) takes in
        subst (λ (x : Tie). TieSays rows plan workers s.row s.weight x (Some next)) (sym tie)
        (subst (λ (r : ℕ). IsReadySooner rows plan r × TakesOver rows plan workers s.row r × (s.weight ≡ ticks_of rows s.row)) (sym e)
        (ready_sooner none, own, weight ∙ ap (ticks_of rows) (sym row)))

    -- one of them there is
    pub some_tie : IsLeastEnding waits ends (start_of plan b) None → IsPredecessor plan workers b None → ⊥
    some_tie none first =
        let (c, takes) = freed_by rows hr p plan workers g b above there (ready_sooner none) in
        none_has_not rows hr p plan workers g b above there c takes first
