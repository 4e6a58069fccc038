-- Of some rows one thing is told at most.
use Rattle.std.proofs.Common.{◌≡◌, ℕ, zero, suc, ◌<◌, Bool, false, List, length, Option, Some, None, refl, ap, sym, subst, ◌∙◌, ⊎_elim, arith}
use Rattle.std.specs.Prelude.{slice_get, slice_index_or}
use Rattle.std.specs.List.{Contains}
use Rattle.std.specs.Option.{option_map_or}
use Rattle.boc_runs.specs.declared.rows.Row.{Row}
use Rattle.boc_runs.specs.Rows.{IsRows}
use Rattle.boc_runs.specs.Changes.{without}
use Rattle.boc_plans.specs.declared.sharing.Sharing.{Sharing}
use Rattle.boc_plans.specs.declared.sharing.Sharing.TheVariants.{SharedReads}
use Rattle.boc_plans.specs.declared.chain.ChainStep.{ChainStep}
use Rattle.boc_plans.specs.Chains.{IsPicked}
use Rattle.boc_plans.specs.Plans.{IsEnd}
use Rattle.boc_plans.specs.Greedy.{IsSpan}
use Rattle.boc_plans.specs.Seen.{seen}
use Rattle.boc_plans.proofs.Seeing.{rows_seen}
use Rattle.boc_order.specs.Placed.{IsTight}
use Rattle.boc_order.proofs.Alone.{one_chain, one_end, one_plan, one_span}
use Rattle.boc_order.specs.Least.{IsHeldFrom, load_of, without_cowns, wrote_cown}
use Rattle.boc_order.proofs.FirstStarts.{one_first}
use Rattle.boc_order.proofs.OneLeast.{one_least}
use Rattle.boc_order.proofs.Places.{contains_from_place, place_from_contains}
use Rattle.boc_order.proofs.Ranked.{ranked_from_places, same_ranked}
use Rattle.boc_cowns.specs.declared.hot.HotCown.{HotCown}
use Rattle.boc_cowns.specs.declared.hot.HotCowns.{HotCowns}
use Rattle.boc_cowns.specs.Hot.{AreAwaited, AreSorted, IsHotCown, IsHotCowns, IsHotter, chain_through, hands_cown, rows_that_wrote, rows_with}
use Rattle.boc_cowns.specs.Hot.{sum_where, wait_of, waited_for, waits_over}
use Rattle.boc_cowns.proofs.Waits.{main_waits}

-- what passes the same tests adds up to the same
sum_same : (p q : ℕ → Bool) (ticks : ℕ → ℕ) (n : ℕ) → ((k : ℕ) → k < n → p k ≡ q k) → sum_where p ticks n ≡ sum_where q ticks n
sum_same p q ticks zero h = refl
sum_same p q ticks (suc n) h = rw (sum_same p q ticks n (λ k l. h k (omega (arith, l))), h n (omega arith)) refl

-- a row waits for one row at most
one_after : (rows : List Row) (plan : List ℕ) (b : ℕ) (o q : Option ℕ) → IsTight rows plan b o → IsTight rows plan b q → o ≡ q
one_after rows plan b None None s t = refl
one_after rows plan b None (Some a) s t = absurd (t.0 s)
one_after rows plan b (Some a) None s t = absurd (s.0 t)
one_after rows plan b (Some a) (Some d) s t = let e : a ≡ d = omega (arith, s.2 d t.1, t.2 a s.1) in ap (λ (x : ℕ). Some x) e

module _ (rows : List Row) (hr : IsRows rows) (plan : List ℕ) (after others : List (Option ℕ)) (aw : AreAwaited rows plan after)
    (ow : AreAwaited rows plan others) where
  waits_same : (cown b : ℕ) → b < length rows → waits_over rows after cown b ≡ waits_over rows others cown b
  waits_same cown zero h = main_waits rows hr after cown ∙ sym (main_waits rows hr others cown)
  waits_same cown (suc b) h = ap (λ (o : Option ℕ). option_map_or (λ a. hands_cown rows cown a (suc b)) o false)
      (one_after rows plan (suc b) (slice_index_or after (suc b) None) (slice_index_or others (suc b) None) (aw.each (suc b) (omega arith) h)
      (ow.each (suc b) (omega arith) h))

  waited_same : (cown : ℕ) → waited_for rows plan after cown ≡ waited_for rows plan others cown
  waited_same cown = sum_same (waits_over rows after cown) (waits_over rows others cown) (wait_of rows plan) (length rows) (waits_same cown)

abbrev made : ℕ → ℕ → ℕ → ℕ → Option ℕ → ℕ → ℕ → ℕ → HotCown
made cown rows wrote held from waited chain left =
    record { cown = cown; rows = rows; wrote = wrote; held = held; from = from; waited = waited; chain = chain; without = left }

hotter_once : (a b : HotCown) → IsHotter a b → IsHotter b a → ⊥
hotter_once a b h g = ⊎_elim
    (λ (x : b.held < a.held). ⊎_elim (λ (y : a.held < b.held). omega arith) (λ (y : (b.held ≡ a.held) × (b.cown < a.cown)). omega arith) g)
    (λ (x : (a.held ≡ b.held) × (a.cown < b.cown)).
    ⊎_elim (λ (y : a.held < b.held). omega arith) (λ (y : (b.held ≡ a.held) × (b.cown < a.cown)). omega arith) g)
    h

module _ (list : List Row) (sharing : Sharing) (hr : IsRows (seen sharing list)) (plan : List ℕ) (after others : List (Option ℕ))
    (aw : AreAwaited (seen sharing list) plan after) (ow : AreAwaited (seen sharing list) plan others) (spawned : List ℕ) (steps : List ChainStep) where
  -- of a cown one thing is told
  one_cown : (a b : HotCown) → IsHotCown list sharing plan after spawned steps a → IsHotCown list sharing plan others spawned steps b
      → a.cown ≡ b.cown → a ≡ b
  one_cown a b ha hb e =
      let left : a.without ≡ b.without = one_span (without b.cown (seen sharing list)) a.without b.without
      (subst (λ (k : ℕ). IsSpan (without k (seen sharing list)) a.without) e ha.left) hb.left in
      let from : a.from ≡ b.from = one_first (wrote_cown (seen sharing list) b.cown) spawned (length (seen sharing list)) a.from b.from
      (subst (λ (k : ℕ). IsHeldFrom (seen sharing list) spawned k a.from) e ha.from) hb.from in
      ap (λ (k : ℕ). made k a.rows a.wrote a.held a.from a.waited a.chain a.without) e
      ∙ (ap (λ (k : ℕ). made b.cown k a.wrote a.held a.from a.waited a.chain a.without) (ha.rows ∙ (ap (rows_with list) e ∙ sym hb.rows))
      ∙ (ap (λ (k : ℕ). made b.cown b.rows k a.held a.from a.waited a.chain a.without) (ha.wrote ∙ (ap (rows_that_wrote list) e ∙ sym hb.wrote))
      ∙ (ap (λ (k : ℕ). made b.cown b.rows b.wrote k a.from a.waited a.chain a.without)
      (ha.held ∙ (ap (load_of (seen sharing list)) e ∙ sym hb.held))
      ∙ (ap (λ (o : Option ℕ). made b.cown b.rows b.wrote b.held o a.waited a.chain a.without) from
      ∙ (ap (λ (k : ℕ). made b.cown b.rows b.wrote b.held b.from k a.chain a.without)
      (ha.waited ∙ (ap (waited_for (seen sharing list) plan after) e
      ∙ (waited_same (seen sharing list) hr plan after others aw ow b.cown ∙ sym hb.waited)))
      ∙ (ap (λ (k : ℕ). made b.cown b.rows b.wrote b.held b.from b.waited k a.without)
      (ha.chain ∙ (ap (chain_through (seen sharing list) steps) e ∙ sym hb.chain))
      ∙ ap (λ (k : ℕ). made b.cown b.rows b.wrote b.held b.from b.waited b.chain k) left))))))

  -- what stands in one list stands in the other
  cowns_there : (count : ℕ) (xs ys : List HotCown)
      → ((i : ℕ) (own : HotCown) → slice_get xs i ≡ Some own → IsHotCown list sharing plan after spawned steps own)
      → ((i : ℕ) (own : HotCown) → slice_get ys i ≡ Some own → IsHotCown list sharing plan others spawned steps own)
      → AreSorted count xs → AreSorted count ys → (own : HotCown) → Contains xs own → Contains ys own
  cowns_there count xs ys ex ey sx sy own stands =
      let at = place_from_contains xs own stands in
      let other = sy.all own.cown (sx.below at.0 own at.1) in
      subst (Contains ys) (sym (one_cown own other.1 (ex at.0 own at.1) (ey other.0 other.1 other.2) (sym other.3)))
      (contains_from_place ys other.0 other.1 other.2)

module _ (list : List Row) (rows : IsRows list) (sharing : Sharing) (count : ℕ) (hot other : HotCowns) (h : IsHotCowns list sharing count hot)
    (o : IsHotCowns list sharing count other) where
  plan_same : o.plan ≡ h.plan
  plan_same = one_plan (seen sharing list) o.plan h.plan o.earliest h.earliest

  steps_same : o.steps ≡ h.steps
  steps_same = one_chain (seen sharing list) h.plan o.steps h.steps
      (subst (λ (p : List ℕ). IsPicked (seen sharing list) p o.steps) plan_same o.picked) h.picked

  awaited_too : AreAwaited (seen sharing list) h.plan o.after
  awaited_too = subst (λ (p : List ℕ). AreAwaited (seen sharing list) p o.after) plan_same o.awaited

  spawned_same : o.least.spawned ≡ h.least.spawned
  spawned_same = one_plan (without_cowns (seen sharing list)) o.least.spawned h.least.spawned o.least.by_spawns.earliest
      h.least.by_spawns.earliest

  each_too : (i : ℕ) (own : HotCown) → slice_get other.cowns.items i ≡ Some own → IsHotCown list sharing h.plan o.after h.least.spawned h.steps own
  each_too i own at = subst (λ (s : List ChainStep). IsHotCown list sharing h.plan o.after h.least.spawned s own) steps_same
      (subst (λ (q : List ℕ). IsHotCown list sharing h.plan o.after q o.steps own) spawned_same
      (subst (λ (p : List ℕ). IsHotCown list sharing p o.after o.least.spawned o.steps own) plan_same (o.each i own at)))

  pub cowns_same : hot.cowns.items ≡ other.cowns.items
  cowns_same =
      let shape = rows_seen sharing list rows in
      same_ranked IsHotter hotter_once hot.cowns.items other.cowns.items
      (ranked_from_places IsHotter hot.cowns.items h.sorted.sorted) (ranked_from_places IsHotter other.cowns.items o.sorted.sorted)
      (cowns_there list sharing shape h.plan h.after o.after h.awaited awaited_too h.least.spawned h.steps count hot.cowns.items other.cowns.items h.each each_too
      h.sorted o.sorted)
      (cowns_there list sharing shape h.plan o.after h.after awaited_too h.awaited h.least.spawned h.steps count other.cowns.items hot.cowns.items each_too h.each
      o.sorted h.sorted)

  pub span_same : hot.span ≡ other.span
  span_same = one_end (seen sharing list) h.plan hot.span other.span h.ends
      (subst (λ (p : List ℕ). IsEnd (seen sharing list) p other.span) plan_same o.ends)

  pub least_same : hot.least ≡ other.least
  least_same = one_least (seen sharing list) count hot.least other.least h.least o.least

  pub shared_same : hot.shared ≡ other.shared
  shared_same = one_span (seen SharedReads list) hot.shared other.shared h.by_shared_reads o.by_shared_reads
